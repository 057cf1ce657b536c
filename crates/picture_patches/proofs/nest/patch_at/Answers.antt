-- `picture_patches::nest::patch_at` meets its contract. Assumes nothing.
use mathlib.Core.Path.{◌≡◌, refl, ap, ◌∙◌}
use Prim.Native.Nat.{ℕ, ◌+◌, ◌*◌, ◌≤◌, ◌<◌}
use native.Mathlib.Omega.{arith}
use lib.ListN.{length}
use Rattle.buffers.specs.Rows.{rows}
use Rattle.buffers.specs.Region.{put}
use Rattle.buffers.proofs.Lists.{fit, length-tab, rows_step}
use Rattle.picture_samples.specs.Samples.{entry}
use Rattle.picture_patches.specs.Patches.{patch_channel}
use Rattle.picture_limits.proofs.Places.{square}
use Rattle.picture_patches.proofs.Patches.{length-channel}
use Rattle.picture_patches.specs.inner.Frame.{viewed}
use Rattle.picture_patches.proofs.nest.patch_at.Goals as goal

pub loop-c-init : goal.loop-c-init
unfolding put rows
loop-c-init c = (refl, refl)

pub overflow_mul-n : goal.overflow_mul-n
overflow_mul-n c = omega (arith, square c.args.f.p c.requires.0.patch-high)

pub overflow_mul-c : goal.overflow_mul-c
overflow_mul-c c = omega (arith, c.requires.5, c.well_formed, fit (c.args.f.p * c.args.f.p) c.loop-c-test.true)

pub overflow_add-at : goal.overflow_add-at
overflow_add-at c = omega (arith, c.requires.5, c.well_formed, fit (c.args.f.p * c.args.f.p) c.loop-c-test.true)

pub patch_channel-requires : goal.patch_channel-requires
patch_channel-requires c =
    (c.requires.0, c.requires.1, c.requires.2, c.requires.3, c.requires.4, c.loop-c-test.true, omega (arith, c.requires.5, c.loop-c.invariant.0, fit (c.args.f.p * c.args.f.p) c.loop-c-test.true))

pub loop-c-preserved : goal.loop-c-preserved
loop-c-preserved c =
    let v = viewed (entry c.args.t.now) c.args.f c.args.v c.args.rgb.now in (
      c.patch_channel.auto.out ∙ c.loop-c.invariant.0,
      rows_step (λ k. patch_channel c.args.f.p v c.args.r c.args.x k) (c.args.f.p * c.args.f.p) (λ k. length-channel c.args.f.p v c.args.r c.args.x k) c.args.out.now c.loop-c.out _ c.args.at (c.args.at + c.loop-c.c * (c.args.f.p * c.args.f.p)) c.loop-c.c c.loop-c.invariant.1 refl c.patch_channel.ensures,
    )

pub shape_of-out : goal.shape_of-out
shape_of-out c = c.loop-c.invariant.0

pub returns : goal.returns
returns c =
    let v = viewed (entry c.args.t.now) c.args.f c.args.v c.args.rgb.now in
    let e : c.loop-c.c ≡ 3 = omega arith in
    c.loop-c.invariant.1 ∙ ap (λ (n : ℕ). put c.args.out.now c.args.at (rows n (λ k. patch_channel c.args.f.p v c.args.r c.args.x k))) e
