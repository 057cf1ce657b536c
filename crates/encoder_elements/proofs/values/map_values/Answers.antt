-- `encoder_elements::values::map_values` meets its contract. Assumes nothing.
use mathlib.Core.Path.{ap, ◌∙◌}
use native.Mathlib.Omega.{arith}
use borrow.Author.Rules.{rules}
use lib.ListN.{length-set}
use lib.Ieee.{nan}
use Rattle.buffers.specs.Region.{region, put}
use Rattle.buffers.specs.inner.Apart.{after}
use Rattle.buffers.specs.Rows.{tab}
use Rattle.buffers.specs.Each.{both}
use Rattle.buffers.proofs.Steps.{elem-step}
use Rattle.encoder_elements.proofs.values.map_values.Goals as goal

pub loop-i-init : goal.loop-i-init
unfolding put tab
loop-i-init g c = search rules

pub loop-i-preserved : goal.loop-i-preserved
loop-i-preserved g c = (
  simp length-set c.loop-i.invariant.0,
  λ h e. cc (c.loop-i.invariant.1 h e, e _ _ c.f.ensures, elem-step c.args.s.now c.args.y c.args.y c.args.n c.loop-i.i nan (λ _ u v. h u) (omega arith) (after (omega arith))),
)

pub shape_of-s : goal.shape_of-s
shape_of-s g c = c.loop-i.invariant.0

pub returns : goal.returns
returns g c = λ h e.
    c.loop-i.invariant.1 h e ∙ ap (λ m. put c.args.s.now c.args.y (both nan m (λ u v. h u) (region c.args.s.now c.args.y c.args.n) (region c.args.s.now c.args.y c.args.n))) (omega arith)
