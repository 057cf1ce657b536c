-- `number_bf16_half_root::packed::bf16_pack_all` meets its contract. Assumes nothing.
use Rattle.number_bf16_half_root.specs.Packed.{packed}
use Rattle.number_bf16_half_root.proofs.packed.Fronts.{Begun}
use Rattle.number_bf16_half_root.proofs.packed.bf16_pack_all.Given as goal

abbrev pub invariant-loop-i : goal.invariant-loop-i
invariant-loop-i l = Begun packed l.x l.initial.out l.out l.i
