-- `picture_patches::nest::all_patches` meets its contract. Assumes nothing.
use mathlib.Core.Path.{◌≡◌, refl, ap, ◌∙◌}
use Prim.Native.Nat.{ℕ, ◌+◌, ◌*◌, ◌≤◌, ◌<◌}
use native.Mathlib.Omega.{arith}
use lib.ListN.{length}
use Rattle.buffers.specs.Rows.{rows}
use Rattle.buffers.specs.Region.{put}
use Rattle.buffers.proofs.Lists.{fit, length-tab, rows_step}
use Rattle.picture_samples.specs.Samples.{entry}
use native.Mathlib.Nat.{mul-le-mul_right}
use Rattle.picture_patches.specs.Patches.{patch_line}
use Rattle.picture_limits.proofs.Places.{square}
use Rattle.picture_patches.proofs.Patches.{length-line}
use Rattle.picture_patches.specs.inner.Frame.{viewed}
use Rattle.picture_patches.proofs.nest.all_patches.Goals as goal

pub loop-a-init : goal.loop-a-init
unfolding put rows
loop-a-init c = (refl, refl)

pub overflow_mul-n : goal.overflow_mul-n
overflow_mul-n c = omega (arith, square c.args.f.p c.requires.0.patch-high)

pub overflow_mul-n-2 : goal.overflow_mul-n-2
overflow_mul-n-2 c = omega (arith, square c.args.f.p c.requires.0.patch-high)

pub overflow_mul-n-3 : goal.overflow_mul-n-3
overflow_mul-n-3 c = let p = c.args.f.p in let q = square p c.requires.0.patch-high in omega (arith, mul-le-mul_right (3 * (p * p)) c.requires.0.grid-wide-high)

pub overflow_mul-a : goal.overflow_mul-a
overflow_mul-a c = omega (arith, c.requires.0.grid-tall, c.requires.0.target-tall, fit c.args.f.p c.loop-a-test.true)

pub overflow_mul-a-in-loop-a : goal.overflow_mul-a-in-loop-a
overflow_mul-a-in-loop-a c = omega (arith, c.requires.3, c.well_formed, fit (c.args.f.gw * (3 * (c.args.f.p * c.args.f.p))) c.loop-a-test.true)

pub patch_line-requires : goal.patch_line-requires
patch_line-requires c =
    (c.requires.0, c.requires.1, c.requires.2, omega (arith, c.requires.0.grid-tall, fit c.args.f.p c.loop-a-test.true), omega (arith, c.requires.3, c.loop-a.invariant.0, fit (c.args.f.gw * (3 * (c.args.f.p * c.args.f.p))) c.loop-a-test.true))

pub loop-a-preserved : goal.loop-a-preserved
loop-a-preserved c =
    let v = viewed (entry c.args.t.now) c.args.f c.args.v c.args.rgb.now in
    let n = c.args.f.gw * (3 * (c.args.f.p * c.args.f.p)) in (
      c.patch_line.auto.out ∙ c.loop-a.invariant.0,
      rows_step (λ k. patch_line c.args.f.p c.args.f.gw v (k * c.args.f.p)) n (λ k. length-line c.args.f.p v c.args.f.gw (k * c.args.f.p)) c.args.out.now c.loop-a.out _ 0 (c.loop-a.a * n) c.loop-a.a c.loop-a.invariant.1 (let z : c.loop-a.a * n ≡ 0 + c.loop-a.a * n = omega arith in z) c.patch_line.ensures,
    )

pub shape_of-out : goal.shape_of-out
shape_of-out c = c.loop-a.invariant.0

pub returns : goal.returns
returns c =
    let v = viewed (entry c.args.t.now) c.args.f c.args.v c.args.rgb.now in
    let e : c.loop-a.a ≡ c.args.f.gh = omega arith in
    c.loop-a.invariant.1 ∙ ap (λ (n : ℕ). put c.args.out.now 0 (rows n (λ k. patch_line c.args.f.p c.args.f.gw v (k * c.args.f.p)))) e
