-- `picture_spot::halve` meets its contract. The invariant: from `low` and `high` on halving ends where it is to end. Assumes nothing.
use mathlib.Core.Path.{◌≡◌}
use Prim.Native.Nat.{◌-◌, ◌≤◌}
use Rattle.picture_samples.specs.Samples.{entry}
use Rattle.picture_spot.specs.inner.Spot.{beyond, halving, halved}
use Rattle.picture_spot.proofs.halve.Given as goal

abbrev pub invariant-loop-low : goal.invariant-loop-low
invariant-loop-low l = (l.low ≤ l.high) × (l.high ≤ 255) × (halving (beyond (entry l.t) l.c l.v) 255 l.low l.high ≡ halved (entry l.t) l.c l.v)

abbrev pub decreases-loop-low : goal.decreases-loop-low
decreases-loop-low l = l.high - l.low
