-- `straight::all_inside` meets its contract. Assumes nothing.
use mathlib.Core.Path.{refl}
use native.Mathlib.Omega.{arith}
use lib.ListN.{get_or}
use lib.Ieee.{nan}
use Rattle.buffers.specs.Rows.{all}
use Rattle.buffers.proofs.Lists.{all_more, all_end}
use Rattle.number_exp_lanes.specs.inner.Near.{inside}
use Rattle.number_exp_lanes.proofs.straight.all_inside.Goals as goal

pub loop-l-init : goal.loop-l-init
unfolding all
loop-l-init c = (omega arith, refl)

pub loop-l-preserved : goal.loop-l-preserved
loop-l-preserved c =
    (omega arith, all_more c.loop-l.l (λ i. inside (get_or c.args.x i nan)) c.loop-l.ok c.is_inside-ok.result c.loop-l.invariant.1 c.is_inside-ok.ensures)

pub returns : goal.returns
returns c =
    all_end 16 c.loop-l.l (λ i. inside (get_or c.args.x i nan)) c.loop-l.ok c.loop-l.invariant.0 c.loop-l-test.false c.loop-l.invariant.1
