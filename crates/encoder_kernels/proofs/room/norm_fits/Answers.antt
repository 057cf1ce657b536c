-- `encoder_kernels::room::norm_fits` meets its contract. Assumes nothing.
use Rattle.encoder_kernels.specs.inner.Room.{norm_fits}
use Rattle.encoder_kernels.proofs.room.norm_fits.Goals as goal

pub returns-then-rows_inside : goal.returns-then-rows_inside
unfolding norm_fits
returns-then-rows_inside c = rw (← c.rows_inside.ensures, ← c.rows_inside-2.ensures, c.if-rows_inside.true, c.aside.ensures)

pub returns : goal.returns
unfolding norm_fits
returns c = rw (← c.rows_inside.ensures, ← c.rows_inside-2.ensures, c.if-rows_inside.false)
