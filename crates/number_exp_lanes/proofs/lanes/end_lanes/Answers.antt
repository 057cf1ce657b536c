-- `number_exp_lanes::lanes::end_lanes` meets its contract. Assumes nothing.
use mathlib.Core.Path.{refl, ap, ◌∙◌}
use mathlib.Core.List.{List}
use native.Mathlib.Omega.{arith}
use lib.ListN.{get_or, length-set, length-replicate}
use lib.Ieee.{Float, nan}
use Rattle.number_exp_tanh.specs.Exp.{series, k_of, r_of, E}
use Rattle.number_floats.specs.Constants.{one64}
use Rattle.buffers.specs.Rows.{tab}
use Rattle.buffers.specs.Region.{put}
use Rattle.buffers.proofs.Lists.{get_or-tab, tab-step-0, tab-all}
use Rattle.number_exp_lanes.proofs.lanes.end_lanes.Goals as goal

pub loop-l-init : goal.loop-l-init
unfolding put tab
loop-l-init c = (omega arith, simp length-replicate, refl)

pub end_of-requires : goal.end_of-requires
end_of-requires c =
    let x = c.args.x in
    let l = c.loop-l.l in (
      ap (λ (t : List Float). get_or t l nan) c.requires.0 ∙ get_or-tab 16 l (λ i. k_of (get_or x i nan)) nan c.loop-l-test.true,
      ap (λ (t : List Float). get_or t l nan) c.requires.1 ∙ get_or-tab 16 l (λ i. series (r_of (get_or x i nan)) 10 one64) nan c.loop-l-test.true,
    )

pub loop-l-preserved : goal.loop-l-preserved
loop-l-preserved c =
    (omega arith, simp length-set c.loop-l.invariant.1, tab-step-0 _ c.loop-l.r c.loop-l.l (λ i. E (get_or c.args.x i nan)) _ c.loop-l.invariant.2 c.end_of.ensures)

pub returns : goal.returns
returns c =
    tab-all _ c.loop-l.r 16 c.loop-l.l (λ i. E (get_or c.args.x i nan)) (simp length-replicate) c.loop-l.invariant.0 c.loop-l-test.false c.loop-l.invariant.2
