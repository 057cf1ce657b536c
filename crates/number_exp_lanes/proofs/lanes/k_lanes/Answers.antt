-- `number_exp_lanes::lanes::k_lanes` meets its contract. Assumes nothing.
use mathlib.Core.Path.{refl, ap, ◌∙◌}
use native.Mathlib.Omega.{arith}
use lib.ListN.{get_or, length-set, length-replicate}
use lib.Ieee.{nan}
use Rattle.number_exp_tanh.specs.Exp.{k_of}
use Rattle.buffers.specs.Rows.{tab}
use Rattle.buffers.specs.Region.{put}
use Rattle.buffers.proofs.Lists.{tab-step-0, tab-all}
use Rattle.number_exp_lanes.proofs.lanes.k_lanes.Goals as goal

pub loop-l-init : goal.loop-l-init
unfolding put tab
loop-l-init c = (omega arith, simp length-replicate, refl)

pub loop-l-preserved : goal.loop-l-preserved
loop-l-preserved c =
    (omega arith, simp length-set c.loop-l.invariant.1, tab-step-0 _ c.loop-l.k c.loop-l.l (λ i. k_of (get_or c.args.x i nan)) _ c.loop-l.invariant.2 (c.k_of.ensures ∙ ap k_of c.widen_f32.ensures))

pub returns : goal.returns
returns c =
    tab-all _ c.loop-l.k 16 c.loop-l.l (λ i. k_of (get_or c.args.x i nan)) (simp length-replicate) c.loop-l.invariant.0 c.loop-l-test.false c.loop-l.invariant.2
