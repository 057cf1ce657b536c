-- `picture_salvage::count_runs` meets its contract. Assumes nothing.
use mathlib.Core.Path.{◌≡◌}
use Prim.Native.Nat.{◌*◌, ◌-◌, ◌≤◌}
use lib.ListN.{length}
use Rattle.picture_samples.specs.Samples.{entry}
use Rattle.picture_salvage.specs.inner.Loops.{bad_run}
use Rattle.picture_salvage.proofs.count_runs.Given as goal

abbrev pub invariant-loop-r : goal.invariant-loop-r
invariant-loop-r l = (l.r ≤ l.m) × (l.o ≡ l.r * (l.p * l.p)) × (l.bad ≡ bad_run (entry l.t) l.p l.bits l.r) × (length l.found ≡ 1024)
