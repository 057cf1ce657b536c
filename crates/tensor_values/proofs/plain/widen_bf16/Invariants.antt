-- `tensor_values::plain::widen_bf16` meets its contract. Assumes nothing.
use mathlib.Core.Path.{◌≡◌}
use Prim.Native.Nat.{◌-◌, ◌/◌}
use lib.ListN.{length}
use Rattle.tensor_values.specs.declared.Kind.TheVariants.{BF16}
use Rattle.tensor_values.proofs.Turns.{Begun}
use Rattle.tensor_values.proofs.plain.widen_bf16.Given as goal

abbrev pub invariant-loop-i : goal.invariant-loop-i
invariant-loop-i l = Begun BF16 l.bytes l.initial.out l.out l.i × (l.n ≡ length l.bytes / 2)
