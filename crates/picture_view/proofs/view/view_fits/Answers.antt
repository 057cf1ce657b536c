-- `picture_view::view::view_fits` meets its contract. Each test that passes bounds the products of the next. Assumes nothing.
use mathlib.Core.Path.{◌≡◌, sym, ◌∙◌}
use mathlib.Core.Bool.{true, false, ◌&&◌}
use Prim.Native.Nat.{ℕ, ◌*◌, ◌≤◌}
use native.Mathlib.Omega.{arith}
use borrow.Author.Tests.{not-true, not-false, leb-true}
use lib.Dec.{leb}
use Rattle.buffers.proofs.Lists.{and_left, and_right}
use Rattle.picture_limits.specs.Settings.{within, sided}
use Rattle.picture_limits.specs.View.{inside}
use Rattle.picture_limits.proofs.Places.{times, square}
use Rattle.picture_limits.proofs.Sides.{within-says, sided-says}
use Rattle.picture_view.specs.View.{view_fits}
use Rattle.picture_view.proofs.view.view_fits.Goals as goal

-- the products
record Sizes (p gh gw h w : ℕ) : Type 0 where
  pixels : h * w ≤ 67108864
  patch : 3 * (p * p) ≤ 3072
  square-high : p * p ≤ 1024
  grids : gh * gw ≤ 4194304
  floats : gh * gw * (3 * (p * p)) ≤ 12884901888
  rows : gh * p ≤ 65536
  columns : gw * p ≤ 65536

pub returns-then-not-sides_allowed : goal.returns-then-not-sides_allowed
unfolding view_fits
returns-then-not-sides_allowed c = rw (sym c.sides_allowed.ensures ∙ not-true _ c.if-not-sides_allowed.true-raw)

pub returns-then-not-p-gh : goal.returns-then-not-p-gh
unfolding view_fits
returns-then-not-p-gh c =
    let sides : let a = c.args in sided c.args.h c.args.w ≡ true = sym c.sides_allowed.ensures ∙ not-false _ c.if-not-sides_allowed.false-raw in
    let a = c.args in
    let e : within 1 32 c.args.p && leb c.args.gh 2048 && leb c.args.gw 2048 ≡ false = not-true _ c.if-not-p-gh.true-raw in
    rw (sides, e)

pub returns-then-not-view_inside : goal.returns-then-not-view_inside
unfolding view_fits
returns-then-not-view_inside c =
    let sides : let a = c.args in sided c.args.h c.args.w ≡ true = sym c.sides_allowed.ensures ∙ not-false _ c.if-not-sides_allowed.false-raw in
    let ranges : let a = c.args in within 1 32 c.args.p && leb c.args.gh 2048 && leb c.args.gw 2048 ≡ true = not-false _ c.if-not-p-gh.false-raw in
    rw (sides, ranges, sym c.view_inside.ensures ∙ not-true _ c.if-not-view_inside.true-raw)

pub overflow_mul-result : goal.overflow_mul-result
overflow_mul-result c =
    let sides : let a = c.args in sided c.args.h c.args.w ≡ true = sym c.sides_allowed.ensures ∙ not-false _ c.if-not-sides_allowed.false-raw in
    let ranges : let a = c.args in within 1 32 c.args.p && leb c.args.gh 2048 && leb c.args.gw 2048 ≡ true = not-false _ c.if-not-p-gh.false-raw in
    let sizes : let a = c.args in Sizes c.args.p c.args.gh c.args.gw c.args.h c.args.w = let a = c.args in
    let d = sided-says c.args.h c.args.w (sides) in
    let r = ranges in
    let A = within 1 32 c.args.p in
    let B = leb c.args.gh 2048 in
    let C = leb c.args.gw 2048 in
    let x = and_left (A && B) C r in
    let k = (within-says 1 32 c.args.p (and_left A B x)).1 in
    let gh = leb-true c.args.gh 2048 (and_right A B x) in
    let gw = leb-true c.args.gw 2048 (and_right (A && B) C r) in
    let q = square c.args.p k in
    let f : 3 * (c.args.p * c.args.p) ≤ 3072 = omega arith in
    let g = times c.args.gh c.args.gw 2048 2048 gh gw in
    record {
      pixels = times c.args.h c.args.w 8192 8192 d.1 d.3;
      patch = f;
      square-high = q;
      grids = g;
      floats = times (c.args.gh * c.args.gw) (3 * (c.args.p * c.args.p)) 4194304 3072 g f;
      rows = times c.args.gh c.args.p 2048 32 gh k;
      columns = times c.args.gw c.args.p 2048 32 gw k;
    } in
    let z = sizes in omega (arith, z.grids)

pub overflow_mul-result-2 : goal.overflow_mul-result-2
overflow_mul-result-2 c =
    let sides : let a = c.args in sided c.args.h c.args.w ≡ true = sym c.sides_allowed.ensures ∙ not-false _ c.if-not-sides_allowed.false-raw in
    let ranges : let a = c.args in within 1 32 c.args.p && leb c.args.gh 2048 && leb c.args.gw 2048 ≡ true = not-false _ c.if-not-p-gh.false-raw in
    let sizes : let a = c.args in Sizes c.args.p c.args.gh c.args.gw c.args.h c.args.w = let a = c.args in
    let d = sided-says c.args.h c.args.w (sides) in
    let r = ranges in
    let A = within 1 32 c.args.p in
    let B = leb c.args.gh 2048 in
    let C = leb c.args.gw 2048 in
    let x = and_left (A && B) C r in
    let k = (within-says 1 32 c.args.p (and_left A B x)).1 in
    let gh = leb-true c.args.gh 2048 (and_right A B x) in
    let gw = leb-true c.args.gw 2048 (and_right (A && B) C r) in
    let q = square c.args.p k in
    let f : 3 * (c.args.p * c.args.p) ≤ 3072 = omega arith in
    let g = times c.args.gh c.args.gw 2048 2048 gh gw in
    record {
      pixels = times c.args.h c.args.w 8192 8192 d.1 d.3;
      patch = f;
      square-high = q;
      grids = g;
      floats = times (c.args.gh * c.args.gw) (3 * (c.args.p * c.args.p)) 4194304 3072 g f;
      rows = times c.args.gh c.args.p 2048 32 gh k;
      columns = times c.args.gw c.args.p 2048 32 gw k;
    } in
    let z = sizes in omega (arith, z.square-high)

pub overflow_mul-result-3 : goal.overflow_mul-result-3
overflow_mul-result-3 c =
    let sides : let a = c.args in sided c.args.h c.args.w ≡ true = sym c.sides_allowed.ensures ∙ not-false _ c.if-not-sides_allowed.false-raw in
    let ranges : let a = c.args in within 1 32 c.args.p && leb c.args.gh 2048 && leb c.args.gw 2048 ≡ true = not-false _ c.if-not-p-gh.false-raw in
    let sizes : let a = c.args in Sizes c.args.p c.args.gh c.args.gw c.args.h c.args.w = let a = c.args in
    let d = sided-says c.args.h c.args.w (sides) in
    let r = ranges in
    let A = within 1 32 c.args.p in
    let B = leb c.args.gh 2048 in
    let C = leb c.args.gw 2048 in
    let x = and_left (A && B) C r in
    let k = (within-says 1 32 c.args.p (and_left A B x)).1 in
    let gh = leb-true c.args.gh 2048 (and_right A B x) in
    let gw = leb-true c.args.gw 2048 (and_right (A && B) C r) in
    let q = square c.args.p k in
    let f : 3 * (c.args.p * c.args.p) ≤ 3072 = omega arith in
    let g = times c.args.gh c.args.gw 2048 2048 gh gw in
    record {
      pixels = times c.args.h c.args.w 8192 8192 d.1 d.3;
      patch = f;
      square-high = q;
      grids = g;
      floats = times (c.args.gh * c.args.gw) (3 * (c.args.p * c.args.p)) 4194304 3072 g f;
      rows = times c.args.gh c.args.p 2048 32 gh k;
      columns = times c.args.gw c.args.p 2048 32 gw k;
    } in
    let z = sizes in omega (arith, z.patch)

pub overflow_mul-result-4 : goal.overflow_mul-result-4
overflow_mul-result-4 c =
    let sides : let a = c.args in sided c.args.h c.args.w ≡ true = sym c.sides_allowed.ensures ∙ not-false _ c.if-not-sides_allowed.false-raw in
    let ranges : let a = c.args in within 1 32 c.args.p && leb c.args.gh 2048 && leb c.args.gw 2048 ≡ true = not-false _ c.if-not-p-gh.false-raw in
    let sizes : let a = c.args in Sizes c.args.p c.args.gh c.args.gw c.args.h c.args.w = let a = c.args in
    let d = sided-says c.args.h c.args.w (sides) in
    let r = ranges in
    let A = within 1 32 c.args.p in
    let B = leb c.args.gh 2048 in
    let C = leb c.args.gw 2048 in
    let x = and_left (A && B) C r in
    let k = (within-says 1 32 c.args.p (and_left A B x)).1 in
    let gh = leb-true c.args.gh 2048 (and_right A B x) in
    let gw = leb-true c.args.gw 2048 (and_right (A && B) C r) in
    let q = square c.args.p k in
    let f : 3 * (c.args.p * c.args.p) ≤ 3072 = omega arith in
    let g = times c.args.gh c.args.gw 2048 2048 gh gw in
    record {
      pixels = times c.args.h c.args.w 8192 8192 d.1 d.3;
      patch = f;
      square-high = q;
      grids = g;
      floats = times (c.args.gh * c.args.gw) (3 * (c.args.p * c.args.p)) 4194304 3072 g f;
      rows = times c.args.gh c.args.p 2048 32 gh k;
      columns = times c.args.gw c.args.p 2048 32 gw k;
    } in
    let z = sizes in omega (arith, z.floats)

pub overflow_mul-result-5 : goal.overflow_mul-result-5
overflow_mul-result-5 c =
    let sides : let a = c.args in sided c.args.h c.args.w ≡ true = sym c.sides_allowed.ensures ∙ not-false _ c.if-not-sides_allowed.false-raw in
    let ranges : let a = c.args in within 1 32 c.args.p && leb c.args.gh 2048 && leb c.args.gw 2048 ≡ true = not-false _ c.if-not-p-gh.false-raw in
    let sizes : let a = c.args in Sizes c.args.p c.args.gh c.args.gw c.args.h c.args.w = let a = c.args in
    let d = sided-says c.args.h c.args.w (sides) in
    let r = ranges in
    let A = within 1 32 c.args.p in
    let B = leb c.args.gh 2048 in
    let C = leb c.args.gw 2048 in
    let x = and_left (A && B) C r in
    let k = (within-says 1 32 c.args.p (and_left A B x)).1 in
    let gh = leb-true c.args.gh 2048 (and_right A B x) in
    let gw = leb-true c.args.gw 2048 (and_right (A && B) C r) in
    let q = square c.args.p k in
    let f : 3 * (c.args.p * c.args.p) ≤ 3072 = omega arith in
    let g = times c.args.gh c.args.gw 2048 2048 gh gw in
    record {
      pixels = times c.args.h c.args.w 8192 8192 d.1 d.3;
      patch = f;
      square-high = q;
      grids = g;
      floats = times (c.args.gh * c.args.gw) (3 * (c.args.p * c.args.p)) 4194304 3072 g f;
      rows = times c.args.gh c.args.p 2048 32 gh k;
      columns = times c.args.gw c.args.p 2048 32 gw k;
    } in
    let z = sizes in omega (arith, z.rows)

pub overflow_mul-result-6 : goal.overflow_mul-result-6
overflow_mul-result-6 c =
    let sides : let a = c.args in sided c.args.h c.args.w ≡ true = sym c.sides_allowed.ensures ∙ not-false _ c.if-not-sides_allowed.false-raw in
    let ranges : let a = c.args in within 1 32 c.args.p && leb c.args.gh 2048 && leb c.args.gw 2048 ≡ true = not-false _ c.if-not-p-gh.false-raw in
    let sizes : let a = c.args in Sizes c.args.p c.args.gh c.args.gw c.args.h c.args.w = let a = c.args in
    let d = sided-says c.args.h c.args.w (sides) in
    let r = ranges in
    let A = within 1 32 c.args.p in
    let B = leb c.args.gh 2048 in
    let C = leb c.args.gw 2048 in
    let x = and_left (A && B) C r in
    let k = (within-says 1 32 c.args.p (and_left A B x)).1 in
    let gh = leb-true c.args.gh 2048 (and_right A B x) in
    let gw = leb-true c.args.gw 2048 (and_right (A && B) C r) in
    let q = square c.args.p k in
    let f : 3 * (c.args.p * c.args.p) ≤ 3072 = omega arith in
    let g = times c.args.gh c.args.gw 2048 2048 gh gw in
    record {
      pixels = times c.args.h c.args.w 8192 8192 d.1 d.3;
      patch = f;
      square-high = q;
      grids = g;
      floats = times (c.args.gh * c.args.gw) (3 * (c.args.p * c.args.p)) 4194304 3072 g f;
      rows = times c.args.gh c.args.p 2048 32 gh k;
      columns = times c.args.gw c.args.p 2048 32 gw k;
    } in
    let z = sizes in omega (arith, z.columns)

pub overflow_mul-result-7 : goal.overflow_mul-result-7
overflow_mul-result-7 c =
    let sides : let a = c.args in sided c.args.h c.args.w ≡ true = sym c.sides_allowed.ensures ∙ not-false _ c.if-not-sides_allowed.false-raw in
    let ranges : let a = c.args in within 1 32 c.args.p && leb c.args.gh 2048 && leb c.args.gw 2048 ≡ true = not-false _ c.if-not-p-gh.false-raw in
    let sizes : let a = c.args in Sizes c.args.p c.args.gh c.args.gw c.args.h c.args.w = let a = c.args in
    let d = sided-says c.args.h c.args.w (sides) in
    let r = ranges in
    let A = within 1 32 c.args.p in
    let B = leb c.args.gh 2048 in
    let C = leb c.args.gw 2048 in
    let x = and_left (A && B) C r in
    let k = (within-says 1 32 c.args.p (and_left A B x)).1 in
    let gh = leb-true c.args.gh 2048 (and_right A B x) in
    let gw = leb-true c.args.gw 2048 (and_right (A && B) C r) in
    let q = square c.args.p k in
    let f : 3 * (c.args.p * c.args.p) ≤ 3072 = omega arith in
    let g = times c.args.gh c.args.gw 2048 2048 gh gw in
    record {
      pixels = times c.args.h c.args.w 8192 8192 d.1 d.3;
      patch = f;
      square-high = q;
      grids = g;
      floats = times (c.args.gh * c.args.gw) (3 * (c.args.p * c.args.p)) 4194304 3072 g f;
      rows = times c.args.gh c.args.p 2048 32 gh k;
      columns = times c.args.gw c.args.p 2048 32 gw k;
    } in
    let z = sizes in omega (arith, z.pixels)

pub overflow_mul-result-8 : goal.overflow_mul-result-8
overflow_mul-result-8 c =
    let sides : let a = c.args in sided c.args.h c.args.w ≡ true = sym c.sides_allowed.ensures ∙ not-false _ c.if-not-sides_allowed.false-raw in
    let ranges : let a = c.args in within 1 32 c.args.p && leb c.args.gh 2048 && leb c.args.gw 2048 ≡ true = not-false _ c.if-not-p-gh.false-raw in
    let sizes : let a = c.args in Sizes c.args.p c.args.gh c.args.gw c.args.h c.args.w = let a = c.args in
    let d = sided-says c.args.h c.args.w (sides) in
    let r = ranges in
    let A = within 1 32 c.args.p in
    let B = leb c.args.gh 2048 in
    let C = leb c.args.gw 2048 in
    let x = and_left (A && B) C r in
    let k = (within-says 1 32 c.args.p (and_left A B x)).1 in
    let gh = leb-true c.args.gh 2048 (and_right A B x) in
    let gw = leb-true c.args.gw 2048 (and_right (A && B) C r) in
    let q = square c.args.p k in
    let f : 3 * (c.args.p * c.args.p) ≤ 3072 = omega arith in
    let g = times c.args.gh c.args.gw 2048 2048 gh gw in
    record {
      pixels = times c.args.h c.args.w 8192 8192 d.1 d.3;
      patch = f;
      square-high = q;
      grids = g;
      floats = times (c.args.gh * c.args.gw) (3 * (c.args.p * c.args.p)) 4194304 3072 g f;
      rows = times c.args.gh c.args.p 2048 32 gh k;
      columns = times c.args.gw c.args.p 2048 32 gw k;
    } in
    let z = sizes in omega (arith, z.pixels)

pub returns : goal.returns
unfolding view_fits
returns c =
    let sides : let a = c.args in sided c.args.h c.args.w ≡ true = sym c.sides_allowed.ensures ∙ not-false _ c.if-not-sides_allowed.false-raw in
    let ranges : let a = c.args in within 1 32 c.args.p && leb c.args.gh 2048 && leb c.args.gw 2048 ≡ true = not-false _ c.if-not-p-gh.false-raw in
    let within-picture : let a = c.args in inside c.args.v c.args.h c.args.w ≡ true = sym c.view_inside.ensures ∙ not-false _ c.if-not-view_inside.false-raw in
    rw (sides, ranges, within-picture)
