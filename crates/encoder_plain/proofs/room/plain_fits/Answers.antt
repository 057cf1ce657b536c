-- `encoder_plain::room::plain_fits` meets its contract. Assumes nothing.
use Rattle.encoder_plain.specs.inner.Room.{plain_fits}
use Rattle.encoder_plain.proofs.room.plain_fits.Goals as goal

pub returns-then-rows_inside-3 : goal.returns-then-rows_inside-3
unfolding plain_fits
returns-then-rows_inside-3 c = rw (← c.rows_inside.ensures, c.if-rows_inside.true, ← c.rows_inside-then-rows_inside.ensures, c.if-rows_inside-2.true, ← c.rows_inside-then-rows_inside-2.ensures, c.if-rows_inside-3.true) c.places_fit.ensures

pub returns-else-rows_inside-3 : goal.returns-else-rows_inside-3
unfolding plain_fits
returns-else-rows_inside-3 c = rw (← c.rows_inside.ensures, c.if-rows_inside.true, ← c.rows_inside-then-rows_inside.ensures, c.if-rows_inside-2.true, ← c.rows_inside-then-rows_inside-2.ensures, c.if-rows_inside-3.false)

pub returns-else-rows_inside-2 : goal.returns-else-rows_inside-2
unfolding plain_fits
returns-else-rows_inside-2 c = rw (← c.rows_inside.ensures, c.if-rows_inside.true, ← c.rows_inside-then-rows_inside.ensures, c.if-rows_inside-2.false)

pub returns-else-rows_inside : goal.returns-else-rows_inside
unfolding plain_fits
returns-else-rows_inside c = rw (← c.rows_inside.ensures, c.if-rows_inside.false)
