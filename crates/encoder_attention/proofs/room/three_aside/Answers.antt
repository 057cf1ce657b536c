-- `encoder_attention::room::three_aside` meets its contract. Assumes nothing.
use Rattle.encoder_attention.proofs.room.three_aside.Goals as goal

pub returns : goal.returns
returns c = cc
