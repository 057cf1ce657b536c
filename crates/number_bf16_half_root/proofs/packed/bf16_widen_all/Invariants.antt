-- `number_bf16_half_root::packed::bf16_widen_all` meets its contract. Assumes nothing.
use Rattle.number_bf16_half_root.specs.Packed.{widened}
use Rattle.number_bf16_half_root.proofs.packed.Fronts.{Begun}
use Rattle.number_bf16_half_root.proofs.packed.bf16_widen_all.Given as goal

abbrev pub invariant-loop-i : goal.invariant-loop-i
invariant-loop-i l = Begun widened l.b l.initial.out l.out l.i
