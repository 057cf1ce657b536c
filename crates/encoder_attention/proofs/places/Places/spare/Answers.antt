-- `encoder_attention::places::Places::spare` meets its contract. Assumes nothing.
use Rattle.encoder_attention.specs.inner.Room.{spare_fits}
use Rattle.encoder_attention.proofs.places.Places.spare.Goals as goal

pub returns : goal.returns
unfolding spare_fits
returns c = cc
