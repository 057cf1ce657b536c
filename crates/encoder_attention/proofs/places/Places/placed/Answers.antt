-- `encoder_attention::places::Places::placed` meets its contract. Assumes nothing.
use Rattle.encoder_attention.proofs.places.Places.placed.Goals as goal

pub returns : goal.returns
returns c = cc
