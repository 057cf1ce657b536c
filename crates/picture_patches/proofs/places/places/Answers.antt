-- `picture_patches::places::places` meets its contract. Assumes nothing.
use mathlib.Core.Path.{◌≡◌, refl, ap, ◌∙◌}
use Prim.Native.Nat.{ℕ}
use native.Mathlib.Omega.{arith}
use lib.ListN.{length-set}
use Rattle.buffers.specs.Rows.{tab}
use Rattle.buffers.specs.Region.{put}
use Rattle.buffers.proofs.Lists.{tab-step-0}
use Rattle.picture_resize.specs.Resize.{near}
use Rattle.picture_patches.specs.inner.Places.{place_of}
use Rattle.picture_patches.proofs.places.places.Goals as goal

pub loop-j-init : goal.loop-j-init
unfolding put tab
loop-j-init c = (refl, refl)

pub loop-j-preserved : goal.loop-j-preserved
loop-j-preserved c = (
  simp length-set c.loop-j.invariant.0,
  tab-step-0 c.args.out.now c.loop-j.out c.loop-j.j (λ k. place_of (near c.args.from c.args.to k)) (place_of c.near_of-n.result) c.loop-j.invariant.1 (ap place_of c.near_of-n.ensures),
)

pub shape_of-out : goal.shape_of-out
shape_of-out c = c.loop-j.invariant.0

pub returns : goal.returns
returns c =
    let e : c.loop-j.j ≡ c.args.to = omega arith in
    c.loop-j.invariant.1 ∙ ap (λ (n : ℕ). put c.args.out.now 0 (tab n (λ k. place_of (near c.args.from c.args.to k)))) e
