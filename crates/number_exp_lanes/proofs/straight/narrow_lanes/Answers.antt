-- `straight::narrow_lanes` meets its contract. Assumes nothing.
use mathlib.Core.Path.{refl}
use native.Mathlib.Omega.{arith}
use lib.ListN.{get_or, length-set, length-replicate}
use lib.Ieee.{nan}
use Rattle.buffers.specs.Rows.{tab}
use Rattle.buffers.specs.Region.{put}
use Rattle.buffers.proofs.Lists.{all-at, tab-step-0, tab-all}
use Rattle.number_floats.specs.Narrow.{narrow}
use Rattle.number_exp_lanes.specs.inner.Near.{normal}
use Rattle.number_exp_lanes.proofs.straight.narrow_lanes.Goals as goal

pub loop-l-init : goal.loop-l-init
unfolding put tab
loop-l-init c = (omega arith, simp length-replicate, refl)

pub narrow_normal-requires : goal.narrow_normal-requires
narrow_normal-requires c = all-at 16 (λ i. normal (get_or c.args.v i nan)) c.requires c.loop-l.l c.loop-l-test.true

pub loop-l-preserved : goal.loop-l-preserved
loop-l-preserved c =
    (omega arith, simp length-set c.loop-l.invariant.1, tab-step-0 _ c.loop-l.r c.loop-l.l (λ i. narrow (get_or c.args.v i nan)) _ c.loop-l.invariant.2 c.narrow_normal.ensures)

pub returns : goal.returns
returns c =
    tab-all _ c.loop-l.r 16 c.loop-l.l (λ i. narrow (get_or c.args.v i nan)) (simp length-replicate) c.loop-l.invariant.0 c.loop-l-test.false c.loop-l.invariant.2
