-- `picture_patches::nest::patch_line` meets its contract. Assumes nothing.
use mathlib.Core.Path.{◌≡◌, refl, ap, ◌∙◌}
use Prim.Native.Nat.{ℕ, ◌+◌, ◌*◌, ◌≤◌, ◌<◌}
use native.Mathlib.Omega.{arith}
use lib.ListN.{length}
use Rattle.buffers.specs.Rows.{rows}
use Rattle.buffers.specs.Region.{put}
use Rattle.buffers.proofs.Lists.{fit, length-tab, rows_step}
use Rattle.picture_samples.specs.Samples.{entry}
use Rattle.picture_patches.specs.Patches.{patch_at}
use Rattle.picture_limits.proofs.Places.{square}
use Rattle.picture_patches.proofs.Patches.{length-patch}
use Rattle.picture_patches.specs.inner.Frame.{viewed}
use Rattle.picture_patches.proofs.nest.patch_line.Goals as goal

pub loop-b-init : goal.loop-b-init
unfolding put rows
loop-b-init c = (refl, refl)

pub overflow_mul-n : goal.overflow_mul-n
overflow_mul-n c = omega (arith, square c.args.f.p c.requires.0.patch-high)

pub overflow_mul-n-2 : goal.overflow_mul-n-2
overflow_mul-n-2 c = omega (arith, square c.args.f.p c.requires.0.patch-high)

pub overflow_mul-b : goal.overflow_mul-b
overflow_mul-b c = omega (arith, c.requires.0.grid-wide, c.requires.0.target-wide, fit c.args.f.p c.loop-b-test.true)

pub overflow_mul-b-in-loop-b : goal.overflow_mul-b-in-loop-b
overflow_mul-b-in-loop-b c = omega (arith, c.requires.4, c.well_formed, fit (3 * (c.args.f.p * c.args.f.p)) c.loop-b-test.true)

pub overflow_add-at : goal.overflow_add-at
overflow_add-at c = omega (arith, c.requires.4, c.well_formed, fit (3 * (c.args.f.p * c.args.f.p)) c.loop-b-test.true)

pub patch_at-requires : goal.patch_at-requires
patch_at-requires c =
    (c.requires.0, c.requires.1, c.requires.2, c.requires.3, omega (arith, c.requires.0.grid-wide, fit c.args.f.p c.loop-b-test.true), omega (arith, c.requires.4, c.loop-b.invariant.0, fit (3 * (c.args.f.p * c.args.f.p)) c.loop-b-test.true))

pub loop-b-preserved : goal.loop-b-preserved
loop-b-preserved c =
    let v = viewed (entry c.args.t.now) c.args.f c.args.v c.args.rgb.now in (
      c.patch_at.auto.out ∙ c.loop-b.invariant.0,
      rows_step (λ k. patch_at c.args.f.p v c.args.r (k * c.args.f.p)) (3 * (c.args.f.p * c.args.f.p)) (λ k. length-patch c.args.f.p v c.args.r (k * c.args.f.p)) c.args.out.now c.loop-b.out _ c.args.at (c.args.at + c.loop-b.b * (3 * (c.args.f.p * c.args.f.p))) c.loop-b.b c.loop-b.invariant.1 refl c.patch_at.ensures,
    )

pub shape_of-out : goal.shape_of-out
shape_of-out c = c.loop-b.invariant.0

pub returns : goal.returns
returns c =
    let v = viewed (entry c.args.t.now) c.args.f c.args.v c.args.rgb.now in
    let e : c.loop-b.b ≡ c.args.f.gw = omega arith in
    c.loop-b.invariant.1 ∙ ap (λ (n : ℕ). put c.args.out.now c.args.at (rows n (λ k. patch_at c.args.f.p v c.args.r (k * c.args.f.p)))) e
