-- `tensor_values::half::widen_f16` meets its contract. Assumes nothing.
use mathlib.Core.Path.{refl}
use Prim.Native.Nat.{◌+◌, ◌-◌, ◌*◌}
use native.Mathlib.Omega.{arith}
use Rattle.tensor_values.specs.declared.Kind.TheVariants.{F16}
use Rattle.tensor_values.proofs.Turns.{begin, ended}
use Rattle.tensor_values.proofs.half.Runs.{run_on}
use Rattle.tensor_values.proofs.half.widen_f16.Goals as goal

pub loop-i-init : goal.loop-i-init
loop-i-init c = (begin F16 c.args.bytes.now c.args.out.now, refl, c.requires)

pub loop-i-preserved : goal.loop-i-preserved
loop-i-preserved c =
    let e = c.loop-i.i + c.run_of.result in
    (run_on c.loop-i.invariant.0 e c.run_of.result (e * 2 - c.loop-i.i * 2) c.widen_run.new.out refl (omega arith) (omega arith) c.widen_run.ensures (omega arith), c.loop-i.invariant.1, c.loop-i.invariant.2)

pub shape_of-out : goal.shape_of-out
shape_of-out c = c.loop-i.invariant.0.long

pub returns : goal.returns
returns c = ended c.loop-i.invariant.0 (omega arith)
