-- `counts::total` meets its contract: the sum is that of the tensors passed. Assumes nothing.
use mathlib.Core.Path.{◌≡◌}
use Prim.Native.Nat.{◌-◌, ◌≤◌}
use Rattle.tensor_header.specs.Tensors.{tensors}
use Rattle.weights.specs.inner.Sums.{sum_to}
use Rattle.weights.proofs.counts.total.Given as goal

abbrev pub invariant-loop-i : goal.invariant-loop-i
invariant-loop-i l = (l.i ≤ l.n) × (l.sum ≡ sum_to (tensors l.s) l.i)
