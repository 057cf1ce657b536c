-- `picture_view::fill_bytes` meets its contract. The invariant: the bytes passed are written. Assumes nothing.
use Rattle.std.proofs.Common.{◌≡◌, ℕ, ◌+◌, refl, ap, ◌∙◌, get_or, arith}
use lib.ListN.{length-set}
use Rattle.std.specs.Float.{nan}
use Rattle.buffers.specs.Rows.{tab}
use Rattle.buffers.specs.Region.{put}
use Rattle.buffers.proofs.Lists.{tab-step}
use Rattle.picture_view.proofs.fill_bytes.Goals as goal

pub loop-k-init : goal.loop-k-init
unfolding put tab
loop-k-init g c = (refl, λ h q. refl)

pub overflow_cast-bytes : goal.overflow_cast-bytes
overflow_cast-bytes g c = omega (arith, c.requires.small _ _ c.f.ensures)

pub loop-k-preserved : goal.loop-k-preserved
loop-k-preserved g c = (
  simp length-set c.loop-k.invariant.0,
  λ h q. tab-step c.args.bytes.now c.loop-k.bytes c.args.at c.loop-k.k (λ i. h (get_or c.args.patches.now (c.args.from + i) nan)) _ (c.loop-k.invariant.1 h q) (q _ _ c.f.ensures),
)

pub returns : goal.returns
returns g c = λ h q.
    let e : c.loop-k.k ≡ c.args.n = omega arith in
    c.loop-k.invariant.1 h q ∙ ap (λ (n : ℕ). put c.args.bytes.now c.args.at (tab n (λ i. h (get_or c.args.patches.now (c.args.from + i) nan)))) e
