-- `number_exp_lanes::lanes::r_lanes` meets its contract. Assumes nothing.
use mathlib.Core.Path.{refl, ap, ◌∙◌}
use native.Mathlib.Omega.{arith}
use lib.ListN.{get_or, length-set, length-replicate}
use lib.Ieee.{Float, nan}
use Rattle.number_exp_tanh.specs.Exp.{r_with}
use Rattle.buffers.specs.Rows.{tab}
use Rattle.buffers.specs.Region.{put}
use Rattle.buffers.proofs.Lists.{tab-step-0, tab-all}
use Rattle.number_exp_lanes.proofs.lanes.r_lanes.Goals as goal

pub loop-l-init : goal.loop-l-init
unfolding put tab
loop-l-init c = (omega arith, simp length-replicate, refl)

pub loop-l-preserved : goal.loop-l-preserved
loop-l-preserved c =
    (omega arith, simp length-set c.loop-l.invariant.1, tab-step-0 _ c.loop-l.r c.loop-l.l (λ i. r_with (get_or c.args.x i nan) (get_or c.args.k i nan)) _ c.loop-l.invariant.2 (c.r_of.ensures ∙ ap (λ (v : Float). r_with v (get_or c.args.k c.loop-l.l nan)) c.widen_f32.ensures))

pub returns : goal.returns
returns c =
    tab-all _ c.loop-l.r 16 c.loop-l.l (λ i. r_with (get_or c.args.x i nan) (get_or c.args.k i nan)) (simp length-replicate) c.loop-l.invariant.0 c.loop-l-test.false c.loop-l.invariant.2
