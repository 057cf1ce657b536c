-- `encoder_linear::lanes::copy_spread` meets its contract. Assumes nothing.
use mathlib.Core.Path.{refl, ap, ◌∙◌}
use Prim.Native.Nat.{◌+◌, ◌*◌}
use native.Mathlib.Omega.{arith}
use native.Mathlib.Numerals.{add-one}
use lib.ListN.{get_or, length-set}
use lib.Ieee.{nan}
use Rattle.encoder_linear.specs.inner.Lanes.{spread}
use Rattle.encoder_linear.proofs.lanes.copy_spread.Goals as goal

pub loop-i-init : goal.loop-i-init
unfolding spread
loop-i-init c = (omega arith, refl, refl)

pub loop-i-preserved : goal.loop-i-preserved
unfolding spread
loop-i-preserved c = (
  omega arith,
  simp length-set c.loop-i.invariant.1,
  rw (add-one c.loop-i.i, ← c.loop-i.invariant.2),
)

pub returns : goal.returns
returns c =
    c.loop-i.invariant.2 ∙ ap (λ k. spread c.args.d.now c.args.at c.args.m k (λ j. get_or c.args.v.now (c.args.o + j * c.args.q) nan)) (omega arith)
