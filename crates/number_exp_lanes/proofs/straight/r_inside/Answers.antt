-- `straight::r_inside` meets its contract. Assumes nothing.
use mathlib.Core.Path.{◌≡◌, refl}
use mathlib.Core.Bool.{true}
use native.Mathlib.Omega.{arith}
use lib.ListN.{get_or, length-set, length-replicate}
use lib.Ieee.{nan}
use Rattle.buffers.specs.Rows.{tab}
use Rattle.buffers.specs.Region.{put}
use Rattle.buffers.proofs.Lists.{all-at, tab-step-0, tab-all}
use Rattle.number_exp_tanh.specs.Exp.{r_with}
use Rattle.number_exp_lanes.specs.inner.Near.{inside}
use Rattle.number_exp_lanes.proofs.straight.Insides.{inside-widens}
use Rattle.number_exp_lanes.proofs.straight.r_inside.Goals as goal

pub loop-l-init : goal.loop-l-init
unfolding put tab
loop-l-init c = (omega arith, simp length-replicate, refl)

pub float_to_float-x : goal.float_to_float-x
float_to_float-x c =
    let here : inside (get_or c.args.x c.loop-l.l nan) ≡ true = all-at 16 (λ i. inside (get_or c.args.x i nan)) c.requires c.loop-l.l c.loop-l-test.true in
    inside-widens _ c.row_known-1.given (here)

pub loop-l-preserved : goal.loop-l-preserved
loop-l-preserved c =
    (omega arith, simp length-set c.loop-l.invariant.1, tab-step-0 _ c.loop-l.r c.loop-l.l (λ i. r_with (get_or c.args.x i nan) (get_or c.args.k i nan)) _ c.loop-l.invariant.2 c.r_of.ensures)

pub returns : goal.returns
returns c =
    tab-all _ c.loop-l.r 16 c.loop-l.l (λ i. r_with (get_or c.args.x i nan) (get_or c.args.k i nan)) (simp length-replicate) c.loop-l.invariant.0 c.loop-l-test.false c.loop-l.invariant.2
