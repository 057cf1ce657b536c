-- `encoder_plain::plain::dot` meets its contract. Assumes nothing.
use mathlib.Core.Path.{refl, ap, ◌∙◌}
use Prim.Native.Nat.{◌+◌}
use native.Mathlib.Omega.{arith}
use native.Mathlib.Numerals.{add-one}
use lib.ListN.{get_or}
use lib.Ieee.{nan, binary32, mul}
use Rattle.encoder_linear.specs.Linear.{sum_of}
use Rattle.encoder_plain.proofs.plain.dot.Goals as goal

pub loop-d-init : goal.loop-d-init
unfolding sum_of
loop-d-init c = (omega arith, refl)

pub loop-d-preserved : goal.loop-d-preserved
unfolding sum_of
loop-d-preserved c = (omega arith, rw (add-one, ← c.loop-d.invariant.1))

pub returns : goal.returns
returns c = c.loop-d.invariant.1 ∙ ap (λ n. sum_of n (λ j. mul binary32 (get_or c.args.s.now (c.args.a + j) nan) (get_or c.args.s.now (c.args.b + j) nan))) (omega arith)
