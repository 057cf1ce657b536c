-- `encoder_linear::room::bias_fits` meets its contract. Assumes nothing.
use Rattle.encoder_linear.specs.inner.Room.{bias_fits}
use Rattle.encoder_linear.proofs.room.bias_fits.Goals as goal

pub returns : goal.returns
unfolding bias_fits
returns c = cc
