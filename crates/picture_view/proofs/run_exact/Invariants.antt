-- `picture_view::run_exact` meets its contract. The invariant: the answer is that of the samples passed. Assumes nothing.
use mathlib.Core.Path.{◌≡◌}
use Prim.Native.Nat.{◌-◌, ◌≤◌}
use Rattle.picture_view.specs.inner.Known.{exact_run}
use Rattle.picture_view.proofs.run_exact.Given as goal

abbrev pub invariant-loop-k : goal.invariant-loop-k
invariant-loop-k l = (l.k ≤ l.n) × (l.ok ≡ exact_run l.slope l.shift l.mean l.deviation l.k l.patches l.at)
