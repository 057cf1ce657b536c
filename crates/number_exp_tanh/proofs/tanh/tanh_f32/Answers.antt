-- `number_exp_tanh::tanh::tanh_f32` meets its contract. Assumes nothing.
use Rattle.std.proofs.Common.{sym, ap, ◌∙◌, subst, lit≤}
use lib.Ieee.{Float, binary64, mul, neg, of_bits}
use Rattle.number_floats.specs.inner.Bounds.{AtMost}
use Rattle.number_floats.specs.Narrow.{narrow}
use Rattle.number_exp_tanh.specs.Exp.{F}
use Rattle.number_exp_tanh.specs.Tanh as S
use Rattle.number_exp_tanh.specs.Tanh.{two, near_zero, from_f}
use Rattle.number_floats.proofs.Patterns.{is-nan}
use Rattle.number_floats.proofs.Bound.{at-most-mul}
use Rattle.number_exp_tanh.proofs.exp.Range.{in-range, wider}
use Rattle.number_exp_tanh.proofs.tanh.tanh_f32.Goals as goal

pub returns-then-y : goal.returns-then-y
unfolding S.T
returns-then-y c = rw c.if-y.true (is-nan c.args.y c.if-y.true)

pub returns-then-y-2 : goal.returns-then-y-2
unfolding S.T
returns-then-y-2 c = rw (c.if-y.false, c.if-y-2.true)

pub returns-then-y-3 : goal.returns-then-y-3
unfolding S.T
returns-then-y-3 c = rw (c.if-y.false, c.if-y-2.false, c.if-y-3.true)

two-at-most : AtMost 2 two
unfolding of_bits
two-at-most = lit≤ tt

pub returns-then-y-4 : goal.returns-then-y-4
unfolding S.T
returns-then-y-4 c =
    rw (c.if-y.false, c.if-y-2.false, c.if-y-3.false, c.if-y-4.true)
    (c.narrow_f64.ensures ∙ ap narrow (c.near_zero.ensures ∙ ap near_zero c.widen_f32-d.ensures))

pub exp_f64-f-requires : goal.exp_f64-f-requires
unfolding of_bits neg
exp_f64-f-requires c =
    let y = c.args.y in
    let b : AtMost 10 y = in-range 10 5 1 5 1 y (lit≤ tt) (lit≤ tt) c.if-y.false c.if-y-2.false c.if-y-3.false in
    subst (λ (z : Float). AtMost 104 (mul binary64 two z)) (sym c.widen_f32-d.ensures)
    (wider 20 104 (mul binary64 two y) (lit≤ tt) (at-most-mul 20 (lit≤ tt) 2 10 two y (lit≤ tt) two-at-most b))

pub returns : goal.returns
unfolding S.T
returns c =
    rw (c.if-y.false, c.if-y-2.false, c.if-y-3.false, c.if-y-4.false)
    (c.narrow_f64-2.ensures ∙ ap (λ (f : Float). narrow (from_f f)) (c.exp_f64-f.ensures ∙ ap (λ (z : Float). F (mul binary64 two z)) c.widen_f32-d.ensures))
