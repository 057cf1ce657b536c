-- `encoder_attention::places::Places::fits` meets its contract. Assumes nothing.
use Rattle.encoder_attention.specs.inner.Room.{attend_fits}
use Rattle.encoder_attention.proofs.places.Places.fits.Goals as goal

pub returns-then-rows_inside-2 : goal.returns-then-rows_inside-2
unfolding attend_fits
returns-then-rows_inside-2 c =
    rw (← c.rows_inside.ensures, c.if-rows_inside.true, ← c.rows_inside-then-rows_inside.ensures, c.if-rows_inside-2.true, ← c.placed-placed.ensures, ← c.inside.ensures, ← c.three_aside.ensures)

pub returns-else-rows_inside-2 : goal.returns-else-rows_inside-2
unfolding attend_fits
returns-else-rows_inside-2 c = rw (← c.rows_inside.ensures, c.if-rows_inside.true, ← c.rows_inside-then-rows_inside.ensures, c.if-rows_inside-2.false)

pub returns-else-rows_inside : goal.returns-else-rows_inside
unfolding attend_fits
returns-else-rows_inside c = rw (← c.rows_inside.ensures, c.if-rows_inside.false)
