-- `picture_view::copy_patch` meets its contract. The invariant: the rows passed are written. Assumes nothing.
use mathlib.Core.Path.{◌≡◌, refl, ap, ◌∙◌}
use mathlib.Core.List.{List}
use Prim.Native.Nat.{ℕ, ◌+◌, ◌*◌, ◌≤◌}
use native.Mathlib.Omega.{arith}
use lib.ListN.{length}
use Rattle.buffers.specs.Region.{put, put_rows}
use Rattle.buffers.proofs.Lists.{fit}
use Rattle.buffers.proofs.Puts.{puts-step}
use Rattle.picture_limits.proofs.Places.{square}
use Rattle.picture_view.specs.inner.Rows.{pixels_of}
use Rattle.picture_view.proofs.copy_patch.Goals as goal

pub overflow_mul-m : goal.overflow_mul-m
overflow_mul-m c =
    let small : c.args.p * c.args.p ≤ 1024 = square c.args.p c.requires.0.patch-high in
    omega (arith, small)

pub loop-i-init : goal.loop-i-init
unfolding put_rows
loop-i-init c = (omega arith, refl, refl)

pub overflow_mul-i : goal.overflow_mul-i
overflow_mul-i c =
    let small : c.args.p * c.args.p ≤ 1024 = square c.args.p c.requires.0.patch-high in
    let room : let i = c.loop-i.i in
    (c.args.at + i * c.args.stride + c.args.wide * 3 ≤ length c.args.out.now) × (i * c.args.p + c.args.p ≤ c.args.p * c.args.p) = (c.requires.0.space c.loop-i.i c.loop-i-test.true, fit c.args.p (omega (arith, c.loop-i-test.true, c.requires.0.rows-high))) in
    omega (arith, small, room.1)

pub overflow_mul-i-in-loop-i : goal.overflow_mul-i-in-loop-i
overflow_mul-i-in-loop-i c =
    let room : let i = c.loop-i.i in
    (c.args.at + i * c.args.stride + c.args.wide * 3 ≤ length c.args.out.now) × (i * c.args.p + c.args.p ≤ c.args.p * c.args.p) = (c.requires.0.space c.loop-i.i c.loop-i-test.true, fit c.args.p (omega (arith, c.loop-i-test.true, c.requires.0.rows-high))) in
    omega (arith, room.0, c.well_formed)

pub overflow_add-at : goal.overflow_add-at
overflow_add-at c =
    let room : let i = c.loop-i.i in
    (c.args.at + i * c.args.stride + c.args.wide * 3 ≤ length c.args.out.now) × (i * c.args.p + c.args.p ≤ c.args.p * c.args.p) = (c.requires.0.space c.loop-i.i c.loop-i-test.true, fit c.args.p (omega (arith, c.loop-i-test.true, c.requires.0.rows-high))) in
    omega (arith, room.0, c.well_formed)

pub copy_run-requires : goal.copy_run-requires
copy_run-requires c =
    let room : let i = c.loop-i.i in
    (c.args.at + i * c.args.stride + c.args.wide * 3 ≤ length c.args.out.now) × (i * c.args.p + c.args.p ≤ c.args.p * c.args.p) = let s = c.before.before.before.before.before in
    (c.requires.0.space c.loop-i.i c.loop-i-test.true, fit c.args.p (omega (arith, c.loop-i-test.true, c.requires.0.rows-high))) in
    let s = c.before.before.before.before.before in
    let r = room in
    (λ j h. omega (arith, h, c.requires.0.columns-high, c.requires.1, r.1), omega (arith, r.0, c.loop-i.invariant.1))

pub loop-i-preserved : goal.loop-i-preserved
loop-i-preserved c =
    let at : ℕ → ℕ = λ i. c.args.at + i * c.args.stride in
    let f : ℕ → List ℕ = λ i. pixels_of c.args.bytes.now (c.args.p * c.args.p) c.args.wide (i * c.args.p) in (
      omega arith,
      c.copy_run.auto.out ∙ c.loop-i.invariant.1,
      c.copy_run.ensures ∙ ap (λ (s : List ℕ). put s (at c.loop-i.i) (f c.loop-i.i)) c.loop-i.invariant.2 ∙ puts-step c.args.out.now at f c.loop-i.i,
    )

pub shape_of-out : goal.shape_of-out
shape_of-out c = c.loop-i.invariant.1

pub returns : goal.returns
returns c =
    let e : c.loop-i.i ≡ c.args.tall = omega arith in
    c.loop-i.invariant.2 ∙ ap (λ (n : ℕ). put_rows c.args.out.now n (λ i. c.args.at + i * c.args.stride) (λ i. pixels_of c.args.bytes.now (c.args.p * c.args.p) c.args.wide (i * c.args.p))) e
