-- `tensor_values::half::widen_f16` meets its contract. Assumes nothing.
use mathlib.Core.Path.{◌≡◌}
use Prim.Native.Nat.{◌-◌, ◌/◌, ◌≤◌}
use lib.ListN.{length}
use Rattle.tensor_values.specs.declared.Kind.TheVariants.{F16}
use Rattle.tensor_values.proofs.Turns.{Begun}
use Rattle.tensor_values.proofs.half.widen_f16.Given as goal

abbrev pub invariant-loop-i : goal.invariant-loop-i
invariant-loop-i l = Begun F16 l.bytes l.initial.out l.out l.i × (l.n ≡ length l.bytes / 2) × (l.n ≤ length l.initial.out)

abbrev pub decreases-loop-i : goal.decreases-loop-i
decreases-loop-i l = l.n - l.i
