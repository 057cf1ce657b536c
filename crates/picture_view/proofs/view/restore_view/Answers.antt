-- `picture_view::view::restore_view` meets its contract. Assumes nothing.
use mathlib.Core.Path.{◌≡◌, refl, sym, ◌∙◌}
use mathlib.Core.Bool.{true, ◌&&◌}
use Prim.Native.Nat.{ℕ, ◌*◌, ◌≤◌, ◌<◌}
use native.Mathlib.Omega.{arith}
use borrow.Author.Tests.{not-true, not-false}
use lib.ListN.{length}
use Rattle.buffers.proofs.Lists.{and_left, and_right}
use Rattle.buffers.proofs.Puts.{puts-ext}
use Rattle.picture_limits.proofs.Places.{times}
use Rattle.picture_samples.specs.Samples.{channels_allowed, value, entry}
use Rattle.picture_view.specs.Known.{known}
use Rattle.picture_view.specs.View.{view_row, view_place, view_fits, view_back}
use Rattle.picture_view.specs.inner.Known.{Exact}
use Rattle.picture_spot.specs.inner.Spot.{spotted, Spots}
use Rattle.picture_spot.proofs.Spots.{spots-of}
use Rattle.picture_view.proofs.Known.{known-cut}
use Rattle.picture_view.proofs.Exact.{exact-of}
use Rattle.picture_view.proofs.Written.{spotted-row}
use Rattle.picture_view.proofs.Views.{Fits, fits-says, place_at, view-rows}
use Rattle.picture_view.proofs.view.restore_view.Goals as goal

-- how large what is computed can be
record Sizes (top left h w gh gw : ℕ) : Type 0 where
  grids : gh * gw ≤ 4194304
  place : top * w ≤ 67108864
  column : left ≤ 8192

pub returns-then-not-channels_allowed-view_fits : goal.returns-then-not-channels_allowed-view_fits
unfolding view_back
returns-then-not-channels_allowed-view_fits c =
    let e = not-true (c.channels_allowed.result && c.view_fits.result) c.if-not-channels_allowed-view_fits.true-raw in record {
      answer = rw (← c.channels_allowed.ensures, ← c.view_fits.ensures, e);
      output = rw (← c.channels_allowed.ensures, ← c.view_fits.ensures, e);
    }

pub overflow_mul-grid_h : goal.overflow_mul-grid_h
overflow_mul-grid_h c =
    let both : let a = c.args in (channels_allowed (value (entry c.args.t.now)) ≡ true) × (view_fits (length c.args.patches.now) c.args.s.patch_size c.args.grid_h c.args.grid_w c.args.v c.args.h c.args.w (length c.args.out.now) ≡ true) = let e = not-false _ c.if-not-channels_allowed-view_fits.false-raw in
    (sym c.channels_allowed.ensures ∙ and_left c.channels_allowed.result c.view_fits.result e, sym c.view_fits.ensures ∙ and_right c.channels_allowed.result c.view_fits.result e) in
    let passed : let a = c.args in Fits (length c.args.patches.now) c.args.s.patch_size c.args.grid_h c.args.grid_w c.args.v c.args.h c.args.w (length c.args.out.now) = fits-says _ _ _ _ _ _ _ _ both.1 in
    let sizes : let a = c.args in Sizes c.args.v.top c.args.v.left c.args.h c.args.w c.args.grid_h c.args.grid_w = let a = c.args in
    let f = passed in
    let t : c.args.v.top ≤ 8192 = omega (arith, f.ends, f.tall) in
    record {
      grids = times c.args.grid_h c.args.grid_w 2048 2048 f.grid-tall f.grid-wide;
      place = times c.args.v.top c.args.w 8192 8192 t f.wide;
      column = omega (arith, f.stops, f.wide);
    } in
    let z = sizes in omega (arith, z.grids)

pub all_known-requires : goal.all_known-requires
all_known-requires c =
    let both : let a = c.args in (channels_allowed (value (entry c.args.t.now)) ≡ true) × (view_fits (length c.args.patches.now) c.args.s.patch_size c.args.grid_h c.args.grid_w c.args.v c.args.h c.args.w (length c.args.out.now) ≡ true) = let e = not-false _ c.if-not-channels_allowed-view_fits.false-raw in
    (sym c.channels_allowed.ensures ∙ and_left c.channels_allowed.result c.view_fits.result e, sym c.view_fits.ensures ∙ and_right c.channels_allowed.result c.view_fits.result e) in
    let passed : let a = c.args in Fits (length c.args.patches.now) c.args.s.patch_size c.args.grid_h c.args.grid_w c.args.v c.args.h c.args.w (length c.args.out.now) = fits-says _ _ _ _ _ _ _ _ both.1 in
    let spots : let a = c.args in Spots c.args.t.now (spotted c.way_of-way.result (entry c.args.t.now)) = let a = c.args in spots-of _ c.args.t.now _ _ c.way_of-way.ensures both.0 in
    let formula : Exact c.args.t.now c.formula_of-formula.result = exact-of _ c.args.t.now _ _ c.formula_of-formula.ensures in
    let f = passed in (f.patch-high, omega (arith, f.samples), spots, formula)

pub returns-then-not-all_known : goal.returns-then-not-all_known
unfolding view_back
returns-then-not-all_known c =
    let both : let a = c.args in (channels_allowed (value (entry c.args.t.now)) ≡ true) × (view_fits (length c.args.patches.now) c.args.s.patch_size c.args.grid_h c.args.grid_w c.args.v c.args.h c.args.w (length c.args.out.now) ≡ true) = let e = not-false _ c.if-not-channels_allowed-view_fits.false-raw in
    (sym c.channels_allowed.ensures ∙ and_left c.channels_allowed.result c.view_fits.result e, sym c.view_fits.ensures ∙ and_right c.channels_allowed.result c.view_fits.result e) in
    let passed : let a = c.args in Fits (length c.args.patches.now) c.args.s.patch_size c.args.grid_h c.args.grid_w c.args.v c.args.h c.args.w (length c.args.out.now) = fits-says _ _ _ _ _ _ _ _ both.1 in
    let answer : let a = c.args in
    c.all_known.result ≡ known (entry c.args.t.now) c.args.s.patch_size c.args.patches.now = let a = c.args in
    c.all_known.ensures ∙ sym (known-cut (entry c.args.t.now) c.args.s.patch_size (c.args.grid_h * c.args.grid_w) c.args.patches.now passed.samples) in
    let b = both in
    let k = sym (answer) ∙ not-true _ c.if-not-all_known.true-raw in record {
      answer = rw (b.0, b.1, k);
      output = rw (b.0, b.1, k);
    }

pub overflow_mul-at : goal.overflow_mul-at
overflow_mul-at c =
    let both : let a = c.args in (channels_allowed (value (entry c.args.t.now)) ≡ true) × (view_fits (length c.args.patches.now) c.args.s.patch_size c.args.grid_h c.args.grid_w c.args.v c.args.h c.args.w (length c.args.out.now) ≡ true) = let e = not-false _ c.if-not-channels_allowed-view_fits.false-raw in
    (sym c.channels_allowed.ensures ∙ and_left c.channels_allowed.result c.view_fits.result e, sym c.view_fits.ensures ∙ and_right c.channels_allowed.result c.view_fits.result e) in
    let passed : let a = c.args in Fits (length c.args.patches.now) c.args.s.patch_size c.args.grid_h c.args.grid_w c.args.v c.args.h c.args.w (length c.args.out.now) = fits-says _ _ _ _ _ _ _ _ both.1 in
    let sizes : let a = c.args in Sizes c.args.v.top c.args.v.left c.args.h c.args.w c.args.grid_h c.args.grid_w = let a = c.args in
    let f = passed in
    let t : c.args.v.top ≤ 8192 = omega (arith, f.ends, f.tall) in
    record {
      grids = times c.args.grid_h c.args.grid_w 2048 2048 f.grid-tall f.grid-wide;
      place = times c.args.v.top c.args.w 8192 8192 t f.wide;
      column = omega (arith, f.stops, f.wide);
    } in
    let z = sizes in omega (arith, z.place)

pub overflow_add-at : goal.overflow_add-at
overflow_add-at c =
    let both : let a = c.args in (channels_allowed (value (entry c.args.t.now)) ≡ true) × (view_fits (length c.args.patches.now) c.args.s.patch_size c.args.grid_h c.args.grid_w c.args.v c.args.h c.args.w (length c.args.out.now) ≡ true) = let e = not-false _ c.if-not-channels_allowed-view_fits.false-raw in
    (sym c.channels_allowed.ensures ∙ and_left c.channels_allowed.result c.view_fits.result e, sym c.view_fits.ensures ∙ and_right c.channels_allowed.result c.view_fits.result e) in
    let passed : let a = c.args in Fits (length c.args.patches.now) c.args.s.patch_size c.args.grid_h c.args.grid_w c.args.v c.args.h c.args.w (length c.args.out.now) = fits-says _ _ _ _ _ _ _ _ both.1 in
    let sizes : let a = c.args in Sizes c.args.v.top c.args.v.left c.args.h c.args.w c.args.grid_h c.args.grid_w = let a = c.args in
    let f = passed in
    let t : c.args.v.top ≤ 8192 = omega (arith, f.ends, f.tall) in
    record {
      grids = times c.args.grid_h c.args.grid_w 2048 2048 f.grid-tall f.grid-wide;
      place = times c.args.v.top c.args.w 8192 8192 t f.wide;
      column = omega (arith, f.stops, f.wide);
    } in
    let z = sizes in omega (arith, z.place, z.column)

pub overflow_mul-at-2 : goal.overflow_mul-at-2
overflow_mul-at-2 c =
    let both : let a = c.args in (channels_allowed (value (entry c.args.t.now)) ≡ true) × (view_fits (length c.args.patches.now) c.args.s.patch_size c.args.grid_h c.args.grid_w c.args.v c.args.h c.args.w (length c.args.out.now) ≡ true) = let e = not-false _ c.if-not-channels_allowed-view_fits.false-raw in
    (sym c.channels_allowed.ensures ∙ and_left c.channels_allowed.result c.view_fits.result e, sym c.view_fits.ensures ∙ and_right c.channels_allowed.result c.view_fits.result e) in
    let passed : let a = c.args in Fits (length c.args.patches.now) c.args.s.patch_size c.args.grid_h c.args.grid_w c.args.v c.args.h c.args.w (length c.args.out.now) = fits-says _ _ _ _ _ _ _ _ both.1 in
    let sizes : let a = c.args in Sizes c.args.v.top c.args.v.left c.args.h c.args.w c.args.grid_h c.args.grid_w = let a = c.args in
    let f = passed in
    let t : c.args.v.top ≤ 8192 = omega (arith, f.ends, f.tall) in
    record {
      grids = times c.args.grid_h c.args.grid_w 2048 2048 f.grid-tall f.grid-wide;
      place = times c.args.v.top c.args.w 8192 8192 t f.wide;
      column = omega (arith, f.stops, f.wide);
    } in
    let z = sizes in omega (arith, z.place, z.column)

pub overflow_mul-w : goal.overflow_mul-w
overflow_mul-w c =
    let both : let a = c.args in (channels_allowed (value (entry c.args.t.now)) ≡ true) × (view_fits (length c.args.patches.now) c.args.s.patch_size c.args.grid_h c.args.grid_w c.args.v c.args.h c.args.w (length c.args.out.now) ≡ true) = let e = not-false _ c.if-not-channels_allowed-view_fits.false-raw in
    (sym c.channels_allowed.ensures ∙ and_left c.channels_allowed.result c.view_fits.result e, sym c.view_fits.ensures ∙ and_right c.channels_allowed.result c.view_fits.result e) in
    let passed : let a = c.args in Fits (length c.args.patches.now) c.args.s.patch_size c.args.grid_h c.args.grid_w c.args.v c.args.h c.args.w (length c.args.out.now) = fits-says _ _ _ _ _ _ _ _ both.1 in
    let f = passed in omega (arith, f.wide)

pub restore_rows-requires : goal.restore_rows-requires
restore_rows-requires c =
    let both : let a = c.args in (channels_allowed (value (entry c.args.t.now)) ≡ true) × (view_fits (length c.args.patches.now) c.args.s.patch_size c.args.grid_h c.args.grid_w c.args.v c.args.h c.args.w (length c.args.out.now) ≡ true) = let e = not-false _ c.if-not-channels_allowed-view_fits.false-raw in
    (sym c.channels_allowed.ensures ∙ and_left c.channels_allowed.result c.view_fits.result e, sym c.view_fits.ensures ∙ and_right c.channels_allowed.result c.view_fits.result e) in
    let passed : let a = c.args in Fits (length c.args.patches.now) c.args.s.patch_size c.args.grid_h c.args.grid_w c.args.v c.args.h c.args.w (length c.args.out.now) = fits-says _ _ _ _ _ _ _ _ both.1 in
    let spots : let a = c.args in Spots c.args.t.now (spotted c.way_of-way.result (entry c.args.t.now)) = let a = c.args in spots-of _ c.args.t.now _ _ c.way_of-way.ensures both.0 in
    (view-rows _ _ _ _ _ _ _ _ (passed), spots)

pub returns : goal.returns
unfolding view_back
returns c =
    let both : let a = c.args in (channels_allowed (value (entry c.args.t.now)) ≡ true) × (view_fits (length c.args.patches.now) c.args.s.patch_size c.args.grid_h c.args.grid_w c.args.v c.args.h c.args.w (length c.args.out.now) ≡ true) = let y = c.view_fits in
    let e = not-false _ c.if-not-channels_allowed-view_fits.false-raw in
    (sym c.channels_allowed.ensures ∙ and_left c.channels_allowed.result c.view_fits.result e, sym c.view_fits.ensures ∙ and_right c.channels_allowed.result c.view_fits.result e) in
    let passed : let a = c.args in Fits (length c.args.patches.now) c.args.s.patch_size c.args.grid_h c.args.grid_w c.args.v c.args.h c.args.w (length c.args.out.now) = fits-says _ _ _ _ _ _ _ _ both.1 in
    let answer : let a = c.args in
    c.all_known.result ≡ known (entry c.args.t.now) c.args.s.patch_size c.args.patches.now = let a = c.args in
    c.all_known.ensures ∙ sym (known-cut (entry c.args.t.now) c.args.s.patch_size (c.args.grid_h * c.args.grid_w) c.args.patches.now passed.samples) in
    let spots : let a = c.args in Spots c.args.t.now (spotted c.way_of-way.result (entry c.args.t.now)) = let a = c.args in spots-of _ c.args.t.now _ _ c.way_of-way.ensures both.0 in
    let a = c.args in
    let p = c.args.s.patch_size in
    let k = entry c.args.t.now in
    let l = c.args.patches.now in
    let b = both in
    let f = passed in
    let g = sym (answer) ∙ not-false _ c.if-not-all_known.false-raw in
    let ok = c.shared_slice_known-1.given in record {
      answer = rw (b.0, b.1, g);
      output = rw (b.0, b.1, g)
          (c.restore_rows.ensures
          ∙ puts-ext c.args.out.now _ (view_place c.args.w c.args.v) _ (view_row k p c.args.grid_w l c.args.v) c.args.v.height (λ y _. place_at c.args.w c.args.v y)
          (λ y hy. let r : y < c.args.grid_h * p = omega (arith, hy, f.rows) in spotted-row c.args.t.now (spotted c.way_of-way.result k) k p c.args.grid_h c.args.grid_w l (spots) (λ _ _ _ _. refl) f.patch-low g f.samples (λ i _. ok i) c.args.v.width y r f.columns));
    }
