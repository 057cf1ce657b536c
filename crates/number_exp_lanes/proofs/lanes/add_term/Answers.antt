-- `number_exp_lanes::lanes::add_term` meets its contract. Assumes nothing.
use mathlib.Core.Path.{◌≡◌, refl, ap, ◌∙◌}
use mathlib.Core.List.{List}
use Prim.Native.Nat.{ℕ}
use native.Mathlib.Omega.{arith}
use lib.ListN.{get_or, length-set}
use lib.Ieee.{Float, nan}
use Rattle.number_exp_tanh.specs.Exp.{term}
use Rattle.buffers.specs.Rows.{tab}
use Rattle.buffers.specs.Region.{put}
use Rattle.buffers.specs.inner.Apart.{after}
use Rattle.buffers.proofs.Lists.{length-tab, tab-step-0, tab-all}
use Rattle.buffers.proofs.Regions.{get_or-put}
use Rattle.number_exp_lanes.proofs.lanes.add_term.Goals as goal

-- a lane that is still to be written
kept : (s t : List Float) (l : ℕ) (f : ℕ → Float) → t ≡ put s 0 (tab l f) → get_or t l nan ≡ get_or s l nan
kept s t l f e = ap (λ (x : List Float). get_or x l nan) e ∙ get_or-put s 0 (tab l f) l nan (rw (length-tab l f) (after (omega arith)))

pub loop-l-init : goal.loop-l-init
unfolding put tab
loop-l-init c = (omega arith, c.well_formed.0.1.0.1, refl)

pub loop-l-preserved : goal.loop-l-preserved
loop-l-preserved c =
    (omega arith, simp length-set c.loop-l.invariant.1, tab-step-0 _ c.loop-l.q c.loop-l.l (λ i. term (get_or c.args.r i nan) (get_or c.args.p i nan) c.args.n) _ c.loop-l.invariant.2 (ap (λ (v : Float). term (get_or c.args.r c.loop-l.l nan) v c.args.n) (kept c.args.p c.loop-l.q c.loop-l.l _ c.loop-l.invariant.2)))

pub returns : goal.returns
returns c =
    tab-all _ c.loop-l.q 16 c.loop-l.l (λ i. term (get_or c.args.r i nan) (get_or c.args.p i nan) c.args.n) c.well_formed.0.1.0.1 c.loop-l.invariant.0 c.loop-l-test.false c.loop-l.invariant.2
