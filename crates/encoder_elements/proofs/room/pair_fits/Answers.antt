-- `encoder_elements::room::pair_fits` meets its contract. Assumes nothing.
use Rattle.encoder_elements.specs.inner.Room.{pair_fits}
use Rattle.encoder_elements.proofs.room.pair_fits.Goals as goal

pub returns : goal.returns
unfolding pair_fits
returns c = cc
