-- `hash::hash` meets its contract: the lanes so far and the values that are left give the lanes of the whole. Assumes nothing.
use Rattle.std.proofs.Common.{◌≡◌, ℕ, drop}
use Rattle.replay.specs.Hash.{lanes, start}
use Rattle.replay.specs.inner.Reduced.{Reduced}
use Rattle.replay.proofs.hash.hash.Given as goal

abbrev pub invariant-loop-x : goal.invariant-loop-x
invariant-loop-x g l =
    Reduced l.h
    × ((f : _) → ((x : _) (r : ℕ) → goal.F-post g l.word x r → r ≡ f x) → lanes f start l.s ≡ lanes f l.h (drop l.x-index l.s))
