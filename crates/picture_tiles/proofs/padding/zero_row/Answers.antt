-- `picture_tiles::padding::zero_row` meets its contract. The invariant: the pixels passed behind the view's are byte 0's. Assumes nothing.
use mathlib.Core.Path.{◌≡◌, sym, ap, ◌∙◌}
use mathlib.Core.Bool.{Bool, true}
use Prim.Native.Nat.{ℕ, ◌+◌, ◌*◌, ◌≤◌, ◌<◌}
use native.Mathlib.Omega.{arith}
use native.Mathlib.Decide.{dec_lt}
use borrow.Author.Tests.{not-true, not-false}
use lib.ListN.{length}
use Rattle.picture_limits.specs.Places.{sample_place}
use Rattle.picture_limits.proofs.Places.{square, times}
use Rattle.picture_samples.specs.Samples.{entry}
use Rattle.picture_tiles.specs.inner.Padding.{zero_pixel}
use Rattle.picture_tiles.proofs.Paddings.{pixel-in, zero_is, own-le, row-passes, row-fails}
use Rattle.picture_tiles.proofs.padding.zero_row.Goals as goal

-- what holds from o on below x, and at x, holds below x + 1
more : (f : ℕ → Bool) (x o : ℕ) → ((j : ℕ) → o ≤ j → j < x → f j ≡ true) → f x ≡ true → (j : ℕ) → o ≤ j → j < x + 1 → f j ≡ true
more f x o i e j h k = go (dec_lt j x)
  where
    go : Dec (j < x) → f j ≡ true
    go (yes d) = i j h d
    go (no d) = let q : j ≡ x = omega arith in rw q e

pub overflow_mul-n : goal.overflow_mul-n
overflow_mul-n c = omega (arith, square c.args.p c.requires.1)

pub overflow_mul-wide : goal.overflow_mul-wide
overflow_mul-wide c = omega (arith, times c.args.gw c.args.p 2048 32 c.requires.2 c.requires.1)

pub loop-x-init : goal.loop-x-init
loop-x-init c =
    let e = c.own_width-x.ensures in
    (omega (arith, e, own-le c.args.v c.args.y, c.requires.5), omega arith, λ j h l. absurd (omega arith))

pub first_place-requires : goal.first_place-requires
first_place-requires c =
    (c.requires.0, c.requires.1, c.requires.2, c.requires.3, omega (arith, c.loop-x-test.true, times c.args.gw c.args.p 2048 32 c.requires.2 c.requires.1))

pub zero_pixel-requires : goal.zero_pixel-requires
zero_pixel-requires c =
    rw c.first_place.ensures (pixel-in c.args.p c.args.gw c.args.y c.loop-x.x (length c.args.patches.now) c.requires.0 c.requires.4 c.loop-x-test.true)

pub returns-then-not-zero_pixel : goal.returns-then-not-zero_pixel
returns-then-not-zero_pixel c =
    let told : let a = c.args in
    c.zero_pixel.result ≡ zero_pixel (entry c.args.t.now) (c.args.p * c.args.p) c.args.patches.now (sample_place c.args.p c.args.gw c.args.y c.loop-x.x 0) = let a = c.args in
    c.zero_pixel.ensures ∙ ap (zero_pixel (entry c.args.t.now) (c.args.p * c.args.p) c.args.patches.now) c.first_place.ensures in
    let a = c.args in
    let e = c.own_width-x.ensures in
    sym (row-fails c.args.v c.args.y (c.args.gw * c.args.p) _ c.loop-x.x (omega (arith, e, c.loop-x.invariant.1)) c.loop-x-test.true
    (sym (zero_is (entry c.args.t.now) c.args.p c.args.gw c.args.patches.now c.args.y c.loop-x.x) ∙ sym (told) ∙ not-true _ c.if-not-zero_pixel.true-raw))

pub loop-x-preserved : goal.loop-x-preserved
loop-x-preserved c =
    let told : let a = c.args in
    c.zero_pixel.result ≡ zero_pixel (entry c.args.t.now) (c.args.p * c.args.p) c.args.patches.now (sample_place c.args.p c.args.gw c.args.y c.loop-x.x 0) = let a = c.args in
    c.zero_pixel.ensures ∙ ap (zero_pixel (entry c.args.t.now) (c.args.p * c.args.p) c.args.patches.now) c.first_place.ensures in
    let a = c.args in
    let l = c.loop-x in (
      omega arith,
      omega arith,
      more (λ j. zero_pixel (entry c.args.t.now) (c.args.p * c.args.p) c.args.patches.now (sample_place c.args.p c.args.gw c.args.y j 0)) c.loop-x.x _ c.loop-x.invariant.2
          (sym told ∙ not-false _ c.if-not-zero_pixel.false-raw),
    )

pub returns : goal.returns
returns c =
    let e = c.own_width-x.ensures in
    let w : c.loop-x.x ≡ c.args.gw * c.args.p = omega arith in
    sym (row-passes c.args.v c.args.y (c.args.gw * c.args.p) _ (λ j h k.
    sym (zero_is (entry c.args.t.now) c.args.p c.args.gw c.args.patches.now c.args.y j) ∙ c.loop-x.invariant.2 j (omega (arith, e, h)) (omega (arith, w, k))))
