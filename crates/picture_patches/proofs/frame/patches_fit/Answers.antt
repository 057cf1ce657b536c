-- `picture_patches::frame::patches_fit` meets its contract. Each test that passes bounds the products of the next. Assumes nothing.
use mathlib.Core.Path.{◌≡◌, sym, ◌∙◌}
use mathlib.Core.Bool.{true, false, ◌&&◌}
use Prim.Native.Nat.{◌*◌, ◌/◌, ◌≤◌}
use native.Mathlib.Omega.{arith}
use borrow.Author.Tests.{not-true, not-false, leb-true}
use lib.Dec.{leb}
use Rattle.buffers.proofs.Lists.{and_left, and_right}
use Rattle.picture_limits.specs.Settings.{within, sided}
use Rattle.picture_limits.proofs.Places.{times, square}
use Rattle.picture_limits.proofs.Sides.{within-says, sided-says, spans}
use Rattle.picture_patches.specs.Resized.{fits}
use Rattle.picture_patches.proofs.frame.patches_fit.Goals as goal

pub returns-then-not-sides_allowed : goal.returns-then-not-sides_allowed
unfolding fits
returns-then-not-sides_allowed c = rw (sym c.sides_allowed.ensures ∙ not-true _ c.if-not-sides_allowed.true-raw)

pub returns-then-not-th-tw : goal.returns-then-not-th-tw
unfolding fits
returns-then-not-th-tw c =
    let sides : let a = c.args in sided c.args.h c.args.w ≡ true = sym c.sides_allowed.ensures ∙ not-false _ c.if-not-sides_allowed.false-raw in
    let a = c.args in
    let e : leb c.args.th 2048 && leb c.args.tw 2048 && within 1 32 c.args.p ≡ false = not-true _ c.if-not-th-tw.true-raw in
    rw (sides, e)

pub overflow_mul-result : goal.overflow_mul-result
overflow_mul-result c =
    let sides : let a = c.args in sided c.args.h c.args.w ≡ true = sym c.sides_allowed.ensures ∙ not-false _ c.if-not-sides_allowed.false-raw in
    let pixels : let a = c.args in c.args.h * c.args.w ≤ 8192 * 8192 = let a = c.args in let t = sided-says c.args.h c.args.w (sides) in times c.args.h c.args.w 8192 8192 t.1 t.3 in
    omega (arith, pixels)

pub overflow_mul-result-2 : goal.overflow_mul-result-2
overflow_mul-result-2 c =
    let sides : let a = c.args in sided c.args.h c.args.w ≡ true = sym c.sides_allowed.ensures ∙ not-false _ c.if-not-sides_allowed.false-raw in
    let pixels : let a = c.args in c.args.h * c.args.w ≤ 8192 * 8192 = let a = c.args in let t = sided-says c.args.h c.args.w (sides) in times c.args.h c.args.w 8192 8192 t.1 t.3 in
    omega (arith, pixels)

pub nonzero_div-result : goal.nonzero_div-result
nonzero_div-result c =
    let ranges : let a = c.args in leb c.args.th 2048 && leb c.args.tw 2048 && within 1 32 c.args.p ≡ true = not-false _ c.if-not-th-tw.false-raw in
    let patch : let a = c.args in (1 ≤ c.args.p) × (c.args.p ≤ 32) = let a = c.args in within-says 1 32 c.args.p (and_right (leb c.args.th 2048 && leb c.args.tw 2048) _ (ranges)) in
    omega (arith, patch.0)

pub nonzero_div-result-2 : goal.nonzero_div-result-2
nonzero_div-result-2 c =
    let ranges : let a = c.args in leb c.args.th 2048 && leb c.args.tw 2048 && within 1 32 c.args.p ≡ true = not-false _ c.if-not-th-tw.false-raw in
    let patch : let a = c.args in (1 ≤ c.args.p) × (c.args.p ≤ 32) = let a = c.args in within-says 1 32 c.args.p (and_right (leb c.args.th 2048 && leb c.args.tw 2048) _ (ranges)) in
    omega (arith, patch.0)

pub overflow_mul-result-3 : goal.overflow_mul-result-3
overflow_mul-result-3 c =
    let ranges : let a = c.args in leb c.args.th 2048 && leb c.args.tw 2048 && within 1 32 c.args.p ≡ true = not-false _ c.if-not-th-tw.false-raw in
    let patch : let a = c.args in (1 ≤ c.args.p) × (c.args.p ≤ 32) = let a = c.args in within-says 1 32 c.args.p (and_right (leb c.args.th 2048 && leb c.args.tw 2048) _ (ranges)) in
    let grids : let a = c.args in c.args.th / c.args.p * (c.args.tw / c.args.p) ≤ 2048 * 2048 = let a = c.args in
    let r = and_left (leb c.args.th 2048 && leb c.args.tw 2048) (within 1 32 c.args.p) (ranges) in
    let h = spans c.args.th c.args.p patch.0 (leb-true _ _ (and_left (leb c.args.th 2048) (leb c.args.tw 2048) r)) in
    let w = spans c.args.tw c.args.p patch.0 (leb-true _ _ (and_right (leb c.args.th 2048) (leb c.args.tw 2048) r)) in
    times _ _ 2048 2048 h.low w.low in
    omega (arith, grids)

pub overflow_mul-result-4 : goal.overflow_mul-result-4
overflow_mul-result-4 c =
    let ranges : let a = c.args in leb c.args.th 2048 && leb c.args.tw 2048 && within 1 32 c.args.p ≡ true = not-false _ c.if-not-th-tw.false-raw in
    let patch : let a = c.args in (1 ≤ c.args.p) × (c.args.p ≤ 32) = let a = c.args in within-says 1 32 c.args.p (and_right (leb c.args.th 2048 && leb c.args.tw 2048) _ (ranges)) in
    let floats : let a = c.args in 3 * (c.args.p * c.args.p) ≤ 3072 = omega (arith, square c.args.p patch.1) in
    omega (arith, floats)

pub overflow_mul-result-5 : goal.overflow_mul-result-5
overflow_mul-result-5 c =
    let ranges : let a = c.args in leb c.args.th 2048 && leb c.args.tw 2048 && within 1 32 c.args.p ≡ true = not-false _ c.if-not-th-tw.false-raw in
    let patch : let a = c.args in (1 ≤ c.args.p) × (c.args.p ≤ 32) = let a = c.args in within-says 1 32 c.args.p (and_right (leb c.args.th 2048 && leb c.args.tw 2048) _ (ranges)) in
    let floats : let a = c.args in 3 * (c.args.p * c.args.p) ≤ 3072 = omega (arith, square c.args.p patch.1) in
    omega (arith, floats)

pub overflow_mul-result-6 : goal.overflow_mul-result-6
overflow_mul-result-6 c =
    let ranges : let a = c.args in leb c.args.th 2048 && leb c.args.tw 2048 && within 1 32 c.args.p ≡ true = not-false _ c.if-not-th-tw.false-raw in
    let patch : let a = c.args in (1 ≤ c.args.p) × (c.args.p ≤ 32) = let a = c.args in within-says 1 32 c.args.p (and_right (leb c.args.th 2048 && leb c.args.tw 2048) _ (ranges)) in
    let grids : let a = c.args in c.args.th / c.args.p * (c.args.tw / c.args.p) ≤ 2048 * 2048 = let a = c.args in
    let r = and_left (leb c.args.th 2048 && leb c.args.tw 2048) (within 1 32 c.args.p) (ranges) in
    let h = spans c.args.th c.args.p patch.0 (leb-true _ _ (and_left (leb c.args.th 2048) (leb c.args.tw 2048) r)) in
    let w = spans c.args.tw c.args.p patch.0 (leb-true _ _ (and_right (leb c.args.th 2048) (leb c.args.tw 2048) r)) in
    times _ _ 2048 2048 h.low w.low in
    let floats : let a = c.args in 3 * (c.args.p * c.args.p) ≤ 3072 = omega (arith, square c.args.p patch.1) in
    omega (arith, times _ _ (2048 * 2048) 3072 (grids) (floats))

pub returns : goal.returns
unfolding fits
returns c =
    let sides : let a = c.args in sided c.args.h c.args.w ≡ true = sym c.sides_allowed.ensures ∙ not-false _ c.if-not-sides_allowed.false-raw in
    let ranges : let a = c.args in leb c.args.th 2048 && leb c.args.tw 2048 && within 1 32 c.args.p ≡ true = not-false _ c.if-not-th-tw.false-raw in
    rw (sides, ranges)
