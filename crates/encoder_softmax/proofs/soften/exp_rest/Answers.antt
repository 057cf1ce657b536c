-- `encoder_softmax::soften::exp_rest` meets its contract. Assumes nothing.
use mathlib.Core.Path.{ap, ◌∙◌}
use native.Mathlib.Omega.{arith}
use borrow.Author.Rules.{rules}
use lib.ListN.{length-set}
use lib.Ieee.{nan, binary32, sub}
use Rattle.number_exp_tanh.specs.Exp.{E}
use Rattle.buffers.specs.Region.{region, put}
use Rattle.buffers.specs.inner.Apart.{after}
use Rattle.buffers.specs.Rows.{tab}
use Rattle.buffers.specs.Each.{both}
use Rattle.encoder_softmax.specs.Softmax.{exp_less}
use Rattle.buffers.proofs.Steps.{elem-step}
use Rattle.encoder_softmax.proofs.soften.exp_rest.Goals as goal

pub loop-i-init : goal.loop-i-init
unfolding put tab
loop-i-init c = search rules

pub loop-i-preserved : goal.loop-i-preserved
loop-i-preserved c = (
  omega arith,
  simp length-set c.loop-i.invariant.1,
  cc (c.loop-i.invariant.2, c.exp_f32.ensures, elem-step c.args.s.now c.args.y c.args.y c.args.n c.loop-i.i nan (λ _ u v. E (sub binary32 u c.args.m)) (omega arith) (after (omega arith))),
)

pub shape_of-s : goal.shape_of-s
shape_of-s c = c.loop-i.invariant.1

pub returns : goal.returns
unfolding exp_less
returns c =
    c.loop-i.invariant.2 ∙ ap (λ k. put c.args.s.now c.args.y (both nan k (λ u v. E (sub binary32 u c.args.m)) (region c.args.s.now c.args.y c.args.n) (region c.args.s.now c.args.y c.args.n))) (omega arith)
