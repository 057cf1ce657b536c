-- `straight::scaled` meets its contract. Assumes nothing.
use mathlib.Core.Path.{refl, ap}
use native.Mathlib.Omega.{arith}
use lib.ListN.{get_or, length-set, length-replicate}
use lib.Ieee.{nan, binary64, mul}
use Rattle.buffers.specs.Rows.{tab}
use Rattle.buffers.specs.Region.{put}
use Rattle.buffers.proofs.Lists.{tab-step-0, tab-all}
use Rattle.number_exp_tanh.specs.Exp.{two_to}
use Rattle.number_exp_lanes.proofs.straight.scaled.Goals as goal

pub loop-l-init : goal.loop-l-init
unfolding put tab
loop-l-init c = (omega arith, simp length-replicate, refl)

pub power_of-requires : goal.power_of-requires
power_of-requires c = c.requires c.loop-l.l c.loop-l-test.true

pub loop-l-preserved : goal.loop-l-preserved
loop-l-preserved c =
    (omega arith, simp length-set c.loop-l.invariant.1, tab-step-0 _ c.loop-l.v c.loop-l.l (λ i. mul binary64 (get_or c.args.p i nan) (two_to (get_or c.args.k i nan))) _ c.loop-l.invariant.2 (ap (mul binary64 (get_or c.args.p c.loop-l.l nan)) c.power_of.ensures))

pub returns : goal.returns
returns c =
    tab-all _ c.loop-l.v 16 c.loop-l.l (λ i. mul binary64 (get_or c.args.p i nan) (two_to (get_or c.args.k i nan))) (simp length-replicate) c.loop-l.invariant.0 c.loop-l-test.false c.loop-l.invariant.2
