-- `encoder_kernels::norm::dot` meets its contract. Assumes nothing.
use mathlib.Core.Path.{◌≡◌}
use Prim.Native.Nat.{◌≤◌}
use lib.ListN.{length, get_or}
use lib.Ieee.{nan, binary32, mul}
use Rattle.encoder_linear.specs.Linear.{sum_of}
use Rattle.encoder_kernels.proofs.norm.dot.Given as goal

-- `kern::dot` meets its contract: at k the sum is that of the first k products. Assumes nothing.
abbrev pub invariant-loop-k : goal.invariant-loop-k
invariant-loop-k l = (l.k ≤ length l.x) × (l.acc ≡ sum_of l.k (λ i. mul binary32 (get_or l.x i nan) (get_or l.w i nan)))
