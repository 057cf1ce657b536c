-- `encoder_linear::values::Values::weigh_pair_fits` meets its contract. Assumes nothing.
use Rattle.encoder_linear.specs.inner.Room.{weigh_pair_fits}
use Rattle.encoder_linear.proofs.values.Values.weigh_pair_fits.Goals as goal

pub returns : goal.returns
unfolding weigh_pair_fits
returns c = rw (c.weigh_fits.ensures, c.weigh_fits-2.ensures, c.aside.ensures, c.aside-2.ensures, c.aside-3.ensures)
