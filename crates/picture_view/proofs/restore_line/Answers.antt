-- `picture_view::restore_line` meets its contract. The invariant: the columns passed are written, in every row, and all but the
-- last end with a patch. Assumes nothing.
use mathlib.Core.Path.{◌≡◌, refl, sym, ap, ◌∙◌}
use Prim.Native.Nat.{ℕ, ◌+◌, ◌*◌, ◌≤◌}
use native.Mathlib.Omega.{arith}
use lib.ListN.{length, length-replicate}
use Rattle.buffers.specs.Rows.{rows}
use Rattle.buffers.specs.Region.{put_rows}
use Rattle.picture_samples.specs.Samples.{entry}
use Rattle.picture_limits.specs.Places.{patch_floats}
use Rattle.picture_limits.proofs.Places.{square}
use Rattle.picture_spot.specs.inner.Spot.{spotted}
use Rattle.picture_view.specs.inner.Rows.{line_by, Piece}
use Rattle.picture_view.proofs.Columns.{puts_none}
use Rattle.picture_view.proofs.Written.{Next, next, line-turn}
use Rattle.picture_view.proofs.restore_line.Goals as goal

pub overflow_mul-m : goal.overflow_mul-m
overflow_mul-m c =
    let small : c.args.p * c.args.p ≤ 1024 = square c.args.p c.requires.0.patch-high in
    omega (arith, small)

pub overflow_mul-m-2 : goal.overflow_mul-m-2
overflow_mul-m-2 c =
    let small : c.args.p * c.args.p ≤ 1024 = square c.args.p c.requires.0.patch-high in
    omega (arith, small)

pub loop-x-init : goal.loop-x-init
unfolding rows
loop-x-init c = (omega arith, λ _. omega arith, refl, simp length-replicate, sym (puts_none c.args.out.now c.args.tall (λ i. c.args.at + i * c.args.stride)))

pub overflow_mul-b : goal.overflow_mul-b
overflow_mul-b c =
    let patch : c.loop-x.x ≡ c.loop-x.b * c.args.p = c.loop-x.invariant.1 c.loop-x-test.true in
    let samples : c.args.from + c.loop-x.b * patch_floats c.args.p + patch_floats c.args.p ≤ length c.args.patches.now = c.requires.0.samples c.loop-x.b (omega (arith, patch, c.loop-x-test.true)) in
    omega (arith, samples, c.well_formed)

pub overflow_add-from : goal.overflow_add-from
overflow_add-from c =
    let patch : c.loop-x.x ≡ c.loop-x.b * c.args.p = c.loop-x.invariant.1 c.loop-x-test.true in
    let samples : c.args.from + c.loop-x.b * patch_floats c.args.p + patch_floats c.args.p ≤ length c.args.patches.now = c.requires.0.samples c.loop-x.b (omega (arith, patch, c.loop-x-test.true)) in
    omega (arith, samples, c.well_formed)

pub overflow_mul-x : goal.overflow_mul-x
overflow_mul-x c =
    let room : c.args.at + 0 * c.args.stride + c.args.wide * 3 ≤ length c.args.out.now = c.requires.0.space 0 c.requires.0.rows-low in
    omega (arith, room, c.loop-x-test.true, c.well_formed)

pub overflow_add-at : goal.overflow_add-at
overflow_add-at c =
    let room : c.args.at + 0 * c.args.stride + c.args.wide * 3 ≤ length c.args.out.now = c.requires.0.space 0 c.requires.0.rows-low in
    omega (arith, room, c.loop-x-test.true, c.well_formed)

pub restore_patch-requires : goal.restore_patch-requires
restore_patch-requires c =
    let patch : c.loop-x.x ≡ c.loop-x.b * c.args.p = c.loop-x.invariant.1 c.loop-x-test.true in
    let step : let a = c.args in let l = c.loop-x in Next c.loop-x.b c.loop-x.x c.args.p c.args.wide c.min-n.result = let s = c.before.before.before.before.before.before.before in
    next _ _ _ _ _ c.requires.0.patch-low c.loop-x-test.true (patch) c.min-n.ensures in
    let samples : let a = c.args in c.args.from + c.loop-x.b * patch_floats c.args.p + patch_floats c.args.p ≤ length c.args.patches.now = let s = c.before.before.before.before.before.before.before in c.requires.0.samples c.loop-x.b (omega (arith, patch, c.loop-x-test.true)) in
    let s = c.before.before.before.before.before.before.before in
    let l = c.loop-x in
    let z = step in
    let piece : Piece c.args.p c.args.tall c.min-n.result (c.args.at + c.loop-x.x * 3) c.args.stride (length c.loop-x.out) =
    record {
      patch-high = c.requires.0.patch-high;
      rows-high = c.requires.0.rows-high;
      columns-high = z.few;
      space = λ i h. omega (arith, c.requires.0.space i h, z.inside, c.loop-x.invariant.2);
    } in
    (piece, samples, omega (arith, c.loop-x.invariant.3), c.requires.1)

pub overflow_add-b : goal.overflow_add-b
overflow_add-b c =
    let patch : c.loop-x.x ≡ c.loop-x.b * c.args.p = c.loop-x.invariant.1 c.loop-x-test.true in
    let step : Next c.loop-x.b c.loop-x.x c.args.p c.args.wide c.min-n.result = next _ _ _ _ _ c.requires.0.patch-low c.loop-x-test.true (patch) c.min-n.ensures in
    omega (arith, step.passed, c.loop-x-test.true, c.well_formed)

pub loop-x-preserved : goal.loop-x-preserved
loop-x-preserved c =
    let patch : c.loop-x.x ≡ c.loop-x.b * c.args.p = c.loop-x.invariant.1 c.loop-x-test.true in
    let step : let a = c.args in let l = c.loop-x in Next c.loop-x.b c.loop-x.x c.args.p c.args.wide c.min-n.result = let s = c.before.before.before.before.before.before.before.before.before.before.before in
    next _ _ _ _ _ c.requires.0.patch-low c.loop-x-test.true (patch) c.min-n.ensures in
    let s = c.before.before.before.before.before.before.before.before.before.before.before in
    let a = c.args in
    let l = c.loop-x in
    let z = step in (
      z.inside,
      z.goes_on,
      c.restore_patch.auto.out ∙ c.loop-x.invariant.2,
      c.restore_patch.auto.bytes ∙ c.loop-x.invariant.3,
      line-turn (spotted c.args.w (entry c.args.t.now)) c.args.p c.args.patches.now c.requires.0.patch-low c.args.out.now c.loop-x.out _ c.args.tall c.args.at c.args.stride c.args.from c.loop-x.b c.loop-x.x c.min-n.result (patch) z.few
          (omega (arith, z.inside, c.requires.0.apart)) c.loop-x.invariant.4 c.restore_patch.ensures,
    )

pub shape_of-out : goal.shape_of-out
shape_of-out c = c.loop-x.invariant.2

pub returns : goal.returns
returns c =
    let e : c.loop-x.x ≡ c.args.wide = omega arith in
    c.loop-x.invariant.4
    ∙ ap (λ (n : ℕ). put_rows c.args.out.now c.args.tall (λ i. c.args.at + i * c.args.stride) (λ i. line_by (spotted c.args.w (entry c.args.t.now)) c.args.p n c.args.patches.now c.args.from i)) e
