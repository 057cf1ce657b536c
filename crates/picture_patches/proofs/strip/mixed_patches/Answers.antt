-- `picture_patches::strip::mixed_patches` meets its contract. Assumes nothing.
use mathlib.Core.Path.{◌≡◌, refl, ap, ◌∙◌}
use Prim.Native.Nat.{ℕ, ◌+◌, ◌*◌}
use native.Mathlib.Nat.{mul-le-mul_right}
use native.Mathlib.Omega.{arith}
use Rattle.buffers.specs.Rows.{rows}
use Rattle.buffers.specs.Region.{put}
use Rattle.buffers.proofs.Lists.{fit, rows_step}
use Rattle.picture_samples.specs.Samples.{entry}
use Rattle.picture_patches.specs.Patches.{patch_line}
use Rattle.picture_patches.specs.inner.Frame.{mixed}
use Rattle.picture_limits.proofs.Places.{square}
use Rattle.picture_patches.proofs.Patches.{length-line}
use Rattle.picture_patches.proofs.strip.mixed_patches.Goals as goal

pub overflow_mul-n : goal.overflow_mul-n
overflow_mul-n c = omega (arith, square c.args.f.p c.requires.0.frame.patch-high)

pub overflow_mul-n-2 : goal.overflow_mul-n-2
overflow_mul-n-2 c = omega (arith, square c.args.f.p c.requires.0.frame.patch-high)

pub overflow_mul-n-3 : goal.overflow_mul-n-3
overflow_mul-n-3 c = let p = c.args.f.p in let q = square p c.requires.0.frame.patch-high in omega (arith, mul-le-mul_right (3 * (p * p)) c.requires.0.frame.grid-wide-high)

pub loop-a-init : goal.loop-a-init
unfolding put rows
loop-a-init c = (refl, refl, refl, refl, refl)

pub overflow_mul-a : goal.overflow_mul-a
overflow_mul-a c = omega (arith, c.requires.0.frame.grid-tall, c.requires.0.frame.target-tall, fit c.args.f.p c.loop-a-test.true)

pub overflow_mul-a-in-loop-a : goal.overflow_mul-a-in-loop-a
overflow_mul-a-in-loop-a c = omega (arith, c.requires.2, c.well_formed, fit (c.args.f.gw * (3 * (c.args.f.p * c.args.f.p))) c.loop-a-test.true)

pub mixed_line-requires : goal.mixed_line-requires
mixed_line-requires c =
    let h = c.loop-a-test.true in
    let p = c.args.f.p in
    (c.requires.0, c.requires.1, omega (arith, c.requires.0.frame.grid-tall, fit p h), omega (arith, c.requires.2, c.loop-a.invariant.0, fit (c.args.f.gw * (3 * (p * p))) h), record { columns = c.requires.3.columns; left-long = c.loop-a.invariant.1 ∙ c.requires.3.left-long; right-long = c.loop-a.invariant.2 ∙ c.requires.3.right-long }, c.loop-a.invariant.3 ∙ c.requires.4)

pub loop-a-preserved : goal.loop-a-preserved
loop-a-preserved c =
    let v = mixed (entry c.args.t.now) c.args.f c.args.rgb.now in
    let n = c.args.f.gw * (3 * (c.args.f.p * c.args.f.p)) in (
      c.mixed_line.auto.out ∙ c.loop-a.invariant.0,
      c.mixed_line.auto.left ∙ c.loop-a.invariant.1,
      c.mixed_line.auto.right ∙ c.loop-a.invariant.2,
      c.mixed_line.auto.band ∙ c.loop-a.invariant.3,
      rows_step (λ k. patch_line c.args.f.p c.args.f.gw v (k * c.args.f.p)) n (λ k. length-line c.args.f.p v c.args.f.gw (k * c.args.f.p)) c.args.out.now c.loop-a.out _ 0 (c.loop-a.a * n) c.loop-a.a c.loop-a.invariant.4
          (let z : c.loop-a.a * n ≡ 0 + c.loop-a.a * n = omega arith in z) c.mixed_line.ensures,
    )

pub shape_of-out : goal.shape_of-out
shape_of-out c = c.loop-a.invariant.0

pub shape_of-left : goal.shape_of-left
shape_of-left c = c.loop-a.invariant.1

pub shape_of-right : goal.shape_of-right
shape_of-right c = c.loop-a.invariant.2

pub shape_of-band : goal.shape_of-band
shape_of-band c = c.loop-a.invariant.3

pub returns : goal.returns
returns c =
    let e : c.loop-a.a ≡ c.args.f.gh = omega arith in
    c.loop-a.invariant.4 ∙ ap (λ (n : ℕ). put c.args.out.now 0 (rows n (λ k. patch_line c.args.f.p c.args.f.gw (mixed (entry c.args.t.now) c.args.f c.args.rgb.now) (k * c.args.f.p)))) e
