-- `encoder_kernels::finite::finite` meets its contract. Assumes nothing.
use mathlib.Core.Path.{◌≡◌}
use Prim.Native.Nat.{◌≤◌}
use lib.ListN.{length, take}
use Rattle.encoder_kernels.specs.Kernels.{all_finite}
use Rattle.encoder_kernels.proofs.finite.finite.Given as goal

abbrev pub invariant-loop-v : goal.invariant-loop-v
invariant-loop-v l = (l.v-index ≤ length l.x) × (l.ok ≡ all_finite (take l.v-index l.x))
