-- `encoder_linear::bias::add_row` meets its contract. Assumes nothing.
use mathlib.Core.Path.{ap, ◌∙◌}
use native.Mathlib.Omega.{arith}
use borrow.Author.Rules.{rules}
use lib.ListN.{length, length-set, get_or}
use lib.Ieee.{nan, binary32, add}
use Rattle.buffers.specs.inner.Apart.{after}
use Rattle.buffers.specs.Region.{region, put}
use Rattle.buffers.specs.Rows.{tab}
use Rattle.buffers.specs.Each.{both}
use Rattle.buffers.proofs.Steps.{elem-step}
use Rattle.encoder_linear.proofs.bias.add_row.Goals as goal

pub loop-i-init : goal.loop-i-init
unfolding put tab
loop-i-init c = search rules

pub loop-i-preserved : goal.loop-i-preserved
loop-i-preserved c =
    let n = length c.args.b.now in (
      omega arith,
      simp length-set c.loop-i.invariant.1,
      cc (c.loop-i.invariant.2, elem-step c.args.s.now c.args.y c.args.y n c.loop-i.i nan (λ i u v. add binary32 u (get_or c.args.b.now i nan)) (omega arith) (after (omega arith))),
    )

pub shape_of-s : goal.shape_of-s
shape_of-s c = c.loop-i.invariant.1

pub returns : goal.returns
returns c =
    let n = length c.args.b.now in
    c.loop-i.invariant.2 ∙ ap (λ m. put c.args.s.now c.args.y (both nan m (λ u v. add binary32 u v) (region c.args.s.now c.args.y n) c.args.b.now)) (omega arith)
