-- `encoder_linear::weigh::column` meets its contract. Assumes nothing.
use mathlib.Core.Path.{refl, ap, ◌∙◌}
use Prim.Native.Nat.{◌+◌, ◌*◌}
use native.Mathlib.Nat.{suc-mul}
use native.Mathlib.Omega.{arith}
use native.Mathlib.Numerals.{add-one}
use lib.ListN.{get_or}
use lib.Ieee.{nan, binary32, mul}
use Rattle.encoder_linear.specs.Linear.{column_of, sum_of}
use Rattle.encoder_linear.proofs.weigh.column.Goals as goal

pub loop-j-init : goal.loop-j-init
unfolding sum_of
loop-j-init c = (omega arith, omega arith, refl)

pub loop-j-preserved : goal.loop-j-preserved
unfolding sum_of
loop-j-preserved c = (
  omega arith,
  rw (add-one, suc-mul) (omega arith),
  rw (add-one, ← c.loop-j.invariant.2, ← c.loop-j.invariant.1),
)

pub returns : goal.returns
unfolding column_of
returns c =
    c.loop-j.invariant.2 ∙ ap (λ n. sum_of n (λ k. mul binary32 (get_or c.args.p.now k nan) (get_or c.args.v.now (k * c.args.dim + c.args.o) nan))) (omega arith)
