-- `tensor_values::plain::widen_bf16` meets its contract. Assumes nothing.
use mathlib.Core.Path.{refl, sym, ap, ◌∙◌}
use Prim.Native.Nat.{◌*◌}
use native.Mathlib.Omega.{arith}
use Rattle.number_bf16_half_root.specs.Packed.{widened}
use Rattle.tensor_values.specs.declared.Kind.TheVariants.{BF16}
use Rattle.tensor_values.specs.Values.{little, value_of}
use Rattle.tensor_values.proofs.Turns.{begin, go_on, ended, two}
use Rattle.tensor_values.proofs.plain.widen_bf16.Goals as goal

pub loop-i-init : goal.loop-i-init
loop-i-init c = (begin BF16 c.args.bytes.now c.args.out.now, refl)

pub loop-i-preserved : goal.loop-i-preserved
unfolding value_of
loop-i-preserved c =
    let b = c.args.bytes.now in
    (go_on c.loop-i.invariant.0 c.bf16_widen.result (omega arith) (c.bf16_widen.ensures ∙ ap widened (c.pair.ensures ∙ ap little (sym (two b (c.loop-i.i * 2) (omega arith))))), c.loop-i.invariant.1)

pub shape_of-out : goal.shape_of-out
shape_of-out c = c.loop-i.invariant.0.long

pub returns : goal.returns
returns c = ended c.loop-i.invariant.0 (omega arith)
