-- `encoder_linear::values::Values::weigh_fits` meets its contract. Assumes nothing.
use Rattle.encoder_linear.specs.inner.Room.{weigh_fits}
use Rattle.encoder_linear.proofs.values.Values.weigh_fits.Goals as goal

pub returns-then-inside-rows_inside : goal.returns-then-inside-rows_inside
unfolding weigh_fits
returns-then-inside-rows_inside c =
    rw (← c.inside.ensures, ← c.rows_inside.ensures, c.if-inside-rows_inside.true, ← c.inside-then-inside-rows_inside.ensures, ← c.inside-then-inside-rows_inside-2.ensures, ← c.aside.ensures, ← c.aside-then-inside-rows_inside.ensures)

pub returns : goal.returns
unfolding weigh_fits
returns c = rw (← c.inside.ensures, ← c.rows_inside.ensures, c.if-inside-rows_inside.false)
