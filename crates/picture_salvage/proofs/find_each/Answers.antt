-- `picture_salvage::find_each` meets its contract. The invariant: what was found of the patterns passed is written. Assumes nothing.
use Rattle.std.proofs.Common.{◌≡◌, ℕ, ◌+◌, refl, ap, ◌∙◌, get_or, arith}
use lib.ListN.{length-set}
use Rattle.buffers.specs.Rows.{tab}
use Rattle.buffers.specs.Region.{put}
use Rattle.buffers.proofs.Lists.{tab-step-0}
use Rattle.picture_salvage.proofs.find_each.Goals as goal

pub loop-k-init : goal.loop-k-init
unfolding put tab
loop-k-init g c = (refl, λ h q. refl)

pub loop-k-preserved : goal.loop-k-preserved
loop-k-preserved g c = (
  simp length-set c.loop-k.invariant.0,
  λ h q. tab-step-0 c.args.found.now c.loop-k.found c.loop-k.k (λ i. h (get_or c.args.bits.now (c.args.at + i) 0)) _ (c.loop-k.invariant.1 h q) (c.or_none.ensures ∙ q _ _ c.f.ensures),
)

pub returns : goal.returns
returns g c = λ h q.
    let e : c.loop-k.k ≡ c.args.n = omega arith in
    c.loop-k.invariant.1 h q ∙ ap (λ (n : ℕ). put c.args.found.now 0 (tab n (λ i. h (get_or c.args.bits.now (c.args.at + i) 0)))) e
