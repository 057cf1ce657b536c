-- `picture_spot::spot` meets its contract. Assumes nothing.
use mathlib.Core.Path.{refl}
use native.Mathlib.Omega.{arith}
use borrow.Author.Tests.{lt-ltb, le-ltb}
use Rattle.picture_samples.specs.Samples.{entry}
use Rattle.picture_spot.specs.inner.Spot.{spotted}
use Rattle.picture_spot.proofs.Spots.{no-spot}
use Rattle.picture_spot.proofs.spot.Goals as goal

pub returns-then-c-ge3 : goal.returns-then-c-ge3
returns-then-c-ge3 c = no-spot c.args.w (entry c.args.t.now) c.args.c c.args.v c.if-c-ge3.true

pub returns-in-Guess : goal.returns-in-Guess
unfolding spotted
returns-in-Guess c = rw (c.in-Guess.is, lt-ltb c.args.c 3 (omega arith)) c.guess.ensures

pub returns-in-Halve : goal.returns-in-Halve
unfolding spotted
returns-in-Halve c = rw (c.in-Halve.is, lt-ltb c.args.c 3 (omega arith)) c.halve.ensures
