-- `encoder_linear::room::linear_fits` meets its contract. Assumes nothing.
use Rattle.encoder_linear.specs.inner.Room.{linear_fits}
use Rattle.encoder_linear.proofs.room.linear_fits.Goals as goal

pub returns-then-rows_inside : goal.returns-then-rows_inside
unfolding linear_fits
returns-then-rows_inside c = rw (← c.rows_inside.ensures, ← c.rows_inside-2.ensures, c.if-rows_inside.true, c.rows_inside-then-rows_inside.ensures, c.aside.ensures)

pub returns : goal.returns
unfolding linear_fits
returns c = rw (← c.rows_inside.ensures, ← c.rows_inside-2.ensures, c.if-rows_inside.false)
