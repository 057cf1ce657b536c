-- `number_exp_tanh::exp::exp_f32` meets its contract. Assumes nothing.
use Rattle.std.proofs.Common.{sym, ap, ◌∙◌, subst, lit≤}
use lib.Ieee.{neg, div, of_bits}
use Rattle.number_floats.specs.inner.Bounds.{AtMost}
use Rattle.number_floats.specs.Narrow.{narrow}
use Rattle.number_exp_tanh.specs.Exp.{E, F}
use Rattle.number_floats.proofs.Patterns.{is-nan}
use Rattle.number_exp_tanh.proofs.exp.Range.{in-range}
use Rattle.number_exp_tanh.proofs.exp.exp_f32.Goals as goal

pub returns-then-x : goal.returns-then-x
unfolding E
returns-then-x c = rw c.if-x.true (is-nan c.args.x c.if-x.true)

pub returns-then-x-2 : goal.returns-then-x-2
unfolding E div of_bits
returns-then-x-2 c = rw (c.if-x.false, c.if-x-2.true)

pub returns-then-x-3 : goal.returns-then-x-3
unfolding E
returns-then-x-3 c = rw (c.if-x.false, c.if-x-2.false, c.if-x-3.true)

pub exp_f64-requires : goal.exp_f64-requires
unfolding of_bits neg
exp_f64-requires c =
    subst (AtMost 104) (sym c.widen_f32.ensures) (in-range 104 89 0 13 3 _ (lit≤ tt) (lit≤ tt) c.if-x.false c.if-x-2.false c.if-x-3.false)

pub returns : goal.returns
unfolding E
returns c =
    rw (c.if-x.false, c.if-x-2.false, c.if-x-3.false)
    (c.narrow_f64.ensures ∙ ap narrow (c.exp_f64.ensures ∙ ap F c.widen_f32.ensures))
