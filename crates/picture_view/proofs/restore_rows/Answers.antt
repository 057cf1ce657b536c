-- `picture_view::restore_rows` meets its contract. The invariant: the rows passed are written, and all but the last end with a
-- line of patches. Assumes nothing.
use mathlib.Core.Path.{◌≡◌, refl, ap, ◌∙◌}
use Prim.Native.Nat.{ℕ, ◌+◌, ◌*◌, ◌≤◌}
use native.Mathlib.Omega.{arith}
use lib.ListN.{length}
use Rattle.buffers.specs.Region.{put_rows}
use Rattle.picture_samples.specs.Samples.{entry}
use Rattle.picture_limits.specs.Places.{patch_floats}
use Rattle.picture_limits.proofs.Places.{square, times}
use Rattle.picture_spot.specs.inner.Spot.{spotted}
use Rattle.picture_view.specs.inner.Rows.{row_by, Line}
use Rattle.picture_view.proofs.Views.{line-in, line-fits}
use Rattle.picture_view.proofs.Written.{Next, next, rows-turn}
use Rattle.picture_view.proofs.restore_rows.Goals as goal

pub overflow_mul-m : goal.overflow_mul-m
overflow_mul-m c =
    let sizes : let a = c.args in (c.args.p * c.args.p ≤ 1024) × (c.args.gw * patch_floats c.args.p ≤ 6291456) = let a = c.args in
    let q = square c.args.p c.requires.0.patch-high in
    (q, times c.args.gw (patch_floats c.args.p) 2048 3072 c.requires.0.grid-high (omega (arith, q))) in
    omega (arith, sizes.0)

pub overflow_mul-m-2 : goal.overflow_mul-m-2
overflow_mul-m-2 c =
    let sizes : let a = c.args in (c.args.p * c.args.p ≤ 1024) × (c.args.gw * patch_floats c.args.p ≤ 6291456) = let a = c.args in
    let q = square c.args.p c.requires.0.patch-high in
    (q, times c.args.gw (patch_floats c.args.p) 2048 3072 c.requires.0.grid-high (omega (arith, q))) in
    omega (arith, sizes.0)

pub overflow_mul-m-3 : goal.overflow_mul-m-3
overflow_mul-m-3 c =
    let sizes : let a = c.args in (c.args.p * c.args.p ≤ 1024) × (c.args.gw * patch_floats c.args.p ≤ 6291456) = let a = c.args in
    let q = square c.args.p c.requires.0.patch-high in
    (q, times c.args.gw (patch_floats c.args.p) 2048 3072 c.requires.0.grid-high (omega (arith, q))) in
    omega (arith, sizes.1)

pub loop-y-init : goal.loop-y-init
unfolding put_rows
loop-y-init c = (omega arith, λ _. omega arith, refl, refl)

pub overflow_mul-a : goal.overflow_mul-a
overflow_mul-a c =
    let line : c.loop-y.y ≡ c.loop-y.a * c.args.p = c.loop-y.invariant.1 c.loop-y-test.true in
    omega (arith, line-in _ _ _ _ _ _ _ _ _ _ c.requires.0 c.loop-y-test.true (line), c.well_formed)

pub overflow_mul-y : goal.overflow_mul-y
overflow_mul-y c =
    let room : c.args.at + c.loop-y.y * c.args.stride + c.args.wide * 3 ≤ length c.args.out.now = c.requires.0.space c.loop-y.y c.loop-y-test.true in
    omega (arith, room, c.well_formed)

pub overflow_add-at : goal.overflow_add-at
overflow_add-at c =
    let room : c.args.at + c.loop-y.y * c.args.stride + c.args.wide * 3 ≤ length c.args.out.now = c.requires.0.space c.loop-y.y c.loop-y-test.true in
    omega (arith, room, c.well_formed)

pub restore_line-requires : goal.restore_line-requires
restore_line-requires c =
    let line : c.loop-y.y ≡ c.loop-y.a * c.args.p = c.loop-y.invariant.1 c.loop-y-test.true in
    let step : let a = c.args in let l = c.loop-y in Next c.loop-y.a c.loop-y.y c.args.p c.args.tall c.min-n.result = let s = c.before.before.before.before.before.before in
    next _ _ _ _ _ c.requires.0.patch-low c.loop-y-test.true (line) c.min-n.ensures in
    let there : let a = c.args in let l = c.loop-y in
    Line c.args.p (c.loop-y.a * (c.args.gw * patch_floats c.args.p)) c.min-n.result c.args.wide (c.args.at + c.loop-y.y * c.args.stride) c.args.stride (length c.args.patches.now) (length c.args.out.now) = let s = c.before.before.before.before.before.before in
    line-fits _ _ _ _ _ _ _ _ _ _ _ c.requires.0 c.loop-y-test.true (line) (step) in
    let s = c.before.before.before.before.before.before in (rw c.loop-y.invariant.2 (there), c.requires.1)

pub overflow_add-a : goal.overflow_add-a
overflow_add-a c =
    let line : c.loop-y.y ≡ c.loop-y.a * c.args.p = c.loop-y.invariant.1 c.loop-y-test.true in
    let step : Next c.loop-y.a c.loop-y.y c.args.p c.args.tall c.min-n.result = next _ _ _ _ _ c.requires.0.patch-low c.loop-y-test.true (line) c.min-n.ensures in
    omega (arith, step.passed, c.loop-y-test.true, c.well_formed)

pub loop-y-preserved : goal.loop-y-preserved
loop-y-preserved c =
    let line : c.loop-y.y ≡ c.loop-y.a * c.args.p = c.loop-y.invariant.1 c.loop-y-test.true in
    let step : let a = c.args in let l = c.loop-y in Next c.loop-y.a c.loop-y.y c.args.p c.args.tall c.min-n.result = let s = c.before.before.before.before.before.before.before.before.before in
    next _ _ _ _ _ c.requires.0.patch-low c.loop-y-test.true (line) c.min-n.ensures in
    let s = c.before.before.before.before.before.before.before.before.before in
    let a = c.args in
    let l = c.loop-y in
    let z = step in (
      z.inside,
      z.goes_on,
      c.restore_line.auto.out ∙ c.loop-y.invariant.2,
      rows-turn (spotted c.args.w (entry c.args.t.now)) c.args.p c.args.patches.now c.requires.0.patch-low c.args.out.now c.loop-y.out _ c.args.gw c.args.wide c.args.at c.args.stride c.loop-y.a c.loop-y.y c.min-n.result (line) z.few
          c.loop-y.invariant.3 c.restore_line.ensures,
    )

pub shape_of-out : goal.shape_of-out
shape_of-out c = c.loop-y.invariant.2

pub returns : goal.returns
returns c =
    let e : c.loop-y.y ≡ c.args.tall = omega arith in
    c.loop-y.invariant.3
    ∙ ap (λ (n : ℕ). put_rows c.args.out.now n (λ i. c.args.at + i * c.args.stride) (λ i. row_by (spotted c.args.w (entry c.args.t.now)) c.args.p c.args.gw c.args.wide c.args.patches.now i)) e
