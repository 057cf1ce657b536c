-- `encoder_linear::room::from_fits` meets its contract. Assumes nothing.
use Rattle.encoder_linear.specs.inner.Room.{from_fits}
use Rattle.encoder_linear.proofs.room.from_fits.Goals as goal

pub returns : goal.returns
unfolding from_fits
returns c = cc
