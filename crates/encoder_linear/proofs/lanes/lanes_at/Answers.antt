-- `encoder_linear::lanes::lanes_at` meets its contract. Assumes nothing.
use mathlib.Core.Path.{◌≡◌, refl, sym, ap, ◌∙◌}
use mathlib.Core.List.{List}
use Prim.Native.Nat.{ℕ, ◌+◌, ◌*◌}
use native.Mathlib.Numerals.{add-one}
use native.Mathlib.Omega.{arith}
use lib.ListN.{get_or, set}
use lib.Ieee.{Float, nan}
use Rattle.encoder_linear.specs.inner.Lanes.{spread}
use Rattle.encoder_linear.proofs.lanes.lanes_at.Invariants.{lanes_of}
use Rattle.encoder_linear.proofs.lanes.lanes_at.Goals as goal

-- one more of them
more : (s t : List Float) (p m i : ℕ) → t ≡ lanes_of s p m i → set t i (get_or s (p + i * m) nan) ≡ lanes_of s p m (i + 1)
unfolding spread
more s t p m i e =
    let z : i ≡ 0 + i * 1 = omega arith in
    ap (λ (k : ℕ). set t k (get_or s (p + i * m) nan)) z ∙ ap (λ (l : List Float). set l (0 + i * 1) (get_or s (p + i * m) nan)) e ∙ ap (lanes_of s p m) (sym (add-one i))

pub loop-i-init : goal.loop-i-init
unfolding spread
loop-i-init c = (omega arith, refl, refl, refl, refl)

pub loop-i-preserved : goal.loop-i-preserved
loop-i-preserved c =
    let s = c.args.s.now in (
      omega (arith, c.loop-i-test.true),
      more s c.loop-i.first c.args.a c.args.m c.loop-i.i c.loop-i.invariant.1,
      more s c.loop-i.second c.args.b c.args.m c.loop-i.i c.loop-i.invariant.2,
      more s c.loop-i.third c.args.c c.args.m c.loop-i.i c.loop-i.invariant.3,
      more s c.loop-i.fourth c.args.d c.args.m c.loop-i.i c.loop-i.invariant.4,
    )

pub returns : goal.returns
returns c =
    let s = c.args.s.now in
    let e : c.loop-i.i ≡ c.args.r = omega (arith, c.loop-i.invariant.0, c.loop-i-test.false) in
    (c.loop-i.invariant.1 ∙ ap (lanes_of s c.args.a c.args.m) e, c.loop-i.invariant.2 ∙ ap (lanes_of s c.args.b c.args.m) e, c.loop-i.invariant.3 ∙ ap (lanes_of s c.args.c c.args.m) e, c.loop-i.invariant.4 ∙ ap (lanes_of s c.args.d c.args.m) e)
