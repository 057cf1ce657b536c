-- `picture_patches::nest::patch_channel` meets its contract. Assumes nothing.
use mathlib.Core.Path.{◌≡◌, refl, ap, ◌∙◌}
use Prim.Native.Nat.{ℕ, ◌+◌, ◌*◌, ◌≤◌, ◌<◌}
use native.Mathlib.Omega.{arith}
use lib.ListN.{length}
use Rattle.buffers.specs.Rows.{rows}
use Rattle.buffers.specs.Region.{put}
use Rattle.buffers.proofs.Lists.{fit, length-tab, rows_step}
use Rattle.picture_samples.specs.Samples.{entry}
use Rattle.picture_patches.specs.Patches.{patch_row}
use Rattle.picture_patches.specs.inner.Frame.{viewed}
use Rattle.picture_patches.proofs.nest.patch_channel.Goals as goal

pub loop-i-init : goal.loop-i-init
unfolding put rows
loop-i-init c = (refl, refl)

pub overflow_add-r : goal.overflow_add-r
overflow_add-r c = omega (arith, c.requires.3, c.loop-i-test.true, c.requires.0.target-tall)

pub overflow_mul-i : goal.overflow_mul-i
overflow_mul-i c = omega (arith, c.requires.6, c.well_formed, fit c.args.f.p c.loop-i-test.true)

pub overflow_add-at : goal.overflow_add-at
overflow_add-at c = omega (arith, c.requires.6, c.well_formed, fit c.args.f.p c.loop-i-test.true)

pub view_row-requires : goal.view_row-requires
view_row-requires c =
    let row_in : c.args.r + c.loop-i.i < c.args.f.th = omega (arith, c.requires.3, c.loop-i-test.true) in
    (c.requires.0, c.requires.1, c.requires.2, row_in, c.requires.4, c.requires.5, omega (arith, c.requires.6, c.loop-i.invariant.0, fit c.args.f.p c.loop-i-test.true))

pub loop-i-preserved : goal.loop-i-preserved
loop-i-preserved c =
    let v = viewed (entry c.args.t.now) c.args.f c.args.v c.args.rgb.now in (
      c.view_row.auto.out ∙ c.loop-i.invariant.0,
      rows_step (λ k. patch_row c.args.f.p v (c.args.r + k) c.args.x c.args.c) (c.args.f.p) (λ k. length-tab c.args.f.p _) c.args.out.now c.loop-i.out _ c.args.at (c.args.at + c.loop-i.i * (c.args.f.p)) c.loop-i.i c.loop-i.invariant.1 refl c.view_row.ensures,
    )

pub shape_of-out : goal.shape_of-out
shape_of-out c = c.loop-i.invariant.0

pub returns : goal.returns
returns c =
    let v = viewed (entry c.args.t.now) c.args.f c.args.v c.args.rgb.now in
    let e : c.loop-i.i ≡ c.args.f.p = omega arith in
    c.loop-i.invariant.1 ∙ ap (λ (n : ℕ). put c.args.out.now c.args.at (rows n (λ k. patch_row c.args.f.p v (c.args.r + k) c.args.x c.args.c))) e
