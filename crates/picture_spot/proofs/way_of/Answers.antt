-- `picture_spot::way_of` meets its contract. Assumes nothing.
use mathlib.Core.Path.{refl, sym}
use Rattle.picture_spot.specs.inner.Spot.{way_of}
use Rattle.picture_spot.proofs.way_of.Goals as goal

pub returns-then-guesses_right : goal.returns-then-guesses_right
unfolding way_of
returns-then-guesses_right c = rw (sym c.if-guesses_right.ensures) refl

pub returns-else-guesses_right : goal.returns-else-guesses_right
unfolding way_of
returns-else-guesses_right c = rw (sym c.if-guesses_right.ensures) refl
