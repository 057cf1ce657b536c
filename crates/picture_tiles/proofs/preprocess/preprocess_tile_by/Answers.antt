-- `picture_tiles::preprocess::preprocess_tile_by` meets its contract. Assumes nothing.
use mathlib.Core.Path.{◌≡◌, refl, sym, ap, ◌∙◌}
use mathlib.Core.Bool.{true, false}
use Prim.Native.Nat.{◌*◌, ◌/◌, ◌≤◌}
use native.Mathlib.Omega.{arith}
use borrow.Author.Tests.{not-true, not-false, eq-eqb, ne_eqb, le-leb, lt-leb, ltb-true}
use lib.ListN.{length}
use Rattle.picture_limits.specs.declared.View.{View}
use Rattle.picture_limits.specs.Settings.{sided, align}
use Rattle.picture_limits.specs.Places.{patch_floats}
use Rattle.picture_limits.proofs.Places.{times}
use Rattle.picture_limits.proofs.Sides.{allowed-says, sided-says}
use Rattle.picture_samples.specs.Samples.{channels_allowed, value_of}
use Rattle.picture_samples.proofs.Channels.{allowed_of}
use Rattle.picture_tiles.specs.Cut.{Ready, up, in_cut, grid_h, grid_w}
use Rattle.picture_tiles.specs.Answer.{tile_floats, tiled}
use Rattle.picture_tiles.proofs.Bounds.{Inside, inside_of}
use Rattle.picture_tiles.proofs.Answers.{Taken, taken, tile-wrote}
use Rattle.picture_tiles.proofs.preprocess.preprocess_tile_by.Goals as goal

pub returns-then-not-sides_allowed : goal.returns-then-not-sides_allowed
unfolding tiled
returns-then-not-sides_allowed c =
    let channels : channels_allowed (value_of c.args.s) ≡ true = let a = c.args in sym (allowed_of c.args.s.mean c.args.s.deviation c.args.t.now c.requires.2) ∙ c.requires.1 in
    let a = c.args in
    let e = c.requires.0 in
    let d = channels in
    let g : sided c.args.height c.args.width ≡ false = sym c.sides_allowed.ensures ∙ not-true _ c.if-not-sides_allowed.true-raw in record {
      answer = simp (e, d, g);
      output = simp (e, d, g);
    }

pub overflow_mul-height : goal.overflow_mul-height
overflow_mul-height c =
    let sides : let a = c.args in sided c.args.height c.args.width ≡ true = sym c.sides_allowed.ensures ∙ not-false _ c.if-not-sides_allowed.false-raw in
    let pixels : let a = c.args in c.args.height * c.args.width ≤ 67108864 = let a = c.args in let t = sided-says c.args.height c.args.width (sides) in times c.args.height c.args.width 8192 8192 t.1 t.3 in
    omega (arith, pixels)

pub overflow_mul-height-2 : goal.overflow_mul-height-2
overflow_mul-height-2 c =
    let sides : let a = c.args in sided c.args.height c.args.width ≡ true = sym c.sides_allowed.ensures ∙ not-false _ c.if-not-sides_allowed.false-raw in
    let pixels : let a = c.args in c.args.height * c.args.width ≤ 67108864 = let a = c.args in let t = sided-says c.args.height c.args.width (sides) in times c.args.height c.args.width 8192 8192 t.1 t.3 in
    omega (arith, pixels)

pub returns-then-rgb-height : goal.returns-then-rgb-height
unfolding tiled
returns-then-rgb-height c =
    let channels : channels_allowed (value_of c.args.s) ≡ true = let a = c.args in sym (allowed_of c.args.s.mean c.args.s.deviation c.args.t.now c.requires.2) ∙ c.requires.1 in
    let sides : let a = c.args in sided c.args.height c.args.width ≡ true = sym c.sides_allowed.ensures ∙ not-false _ c.if-not-sides_allowed.false-raw in
    let e = c.requires.0 in
    let d = channels in
    let g = sides in
    let k = ne_eqb _ _ c.if-rgb-height.true in record {
      answer = simp (e, d, g, k);
      output = simp (e, d, g, k);
    }

pub overflow_mul-p : goal.overflow_mul-p
overflow_mul-p c =
    let s = c.args.s in
    let o = allowed-says s c.requires.0 in
    omega (arith, times c.args.s.patch_size c.args.s.spatial_merge_size 32 4 o.patch-high o.merge-high)

pub returns-then-s-p : goal.returns-then-s-p
unfolding tiled
returns-then-s-p c =
    let channels : channels_allowed (value_of c.args.s) ≡ true = let a = c.args in sym (allowed_of c.args.s.mean c.args.s.deviation c.args.t.now c.requires.2) ∙ c.requires.1 in
    let sides : let a = c.args in sided c.args.height c.args.width ≡ true = sym c.sides_allowed.ensures ∙ not-false _ c.if-not-sides_allowed.false-raw in
    let e = c.requires.0 in
    let d = channels in
    let g = sides in
    let k = eq-eqb _ _ c.if-rgb-height.false in
    let l = lt-leb _ _ c.if-s-p.true in record {
      answer = simp (e, d, g, k, l);
      output = simp (e, d, g, k, l);
    }

pub in_cut-requires : goal.in_cut-requires
in_cut-requires c =
    let sides : sided c.args.height c.args.width ≡ true = sym c.sides_allowed.ensures ∙ not-false _ c.if-not-sides_allowed.false-raw in
    let ready : Ready c.args.s = record { settings = c.requires.0; image = c.if-s-p.false } in
    (ready, sides)

pub returns-then-not-in_cut : goal.returns-then-not-in_cut
unfolding tiled
returns-then-not-in_cut c =
    let channels : channels_allowed (value_of c.args.s) ≡ true = let a = c.args in sym (allowed_of c.args.s.mean c.args.s.deviation c.args.t.now c.requires.2) ∙ c.requires.1 in
    let sides : let a = c.args in sided c.args.height c.args.width ≡ true = sym c.sides_allowed.ensures ∙ not-false _ c.if-not-sides_allowed.false-raw in
    let a = c.args in
    let e = c.requires.0 in
    let d = channels in
    let g = sides in
    let k = eq-eqb _ _ c.if-rgb-height.false in
    let l = le-leb _ _ c.if-s-p.false in
    let m : in_cut c.args.s c.args.height c.args.width c.args.index ≡ false = sym c.in_cut.ensures ∙ not-true _ c.if-not-in_cut.true-raw in record {
      answer = simp (e, d, g, k, l, m);
      output = simp (e, d, g, k, l, m);
    }

pub tile_view-v-requires : goal.tile_view-v-requires
tile_view-v-requires c =
    let sides : let a = c.args in sided c.args.height c.args.width ≡ true = sym c.sides_allowed.ensures ∙ not-false _ c.if-not-sides_allowed.false-raw in
    let ready : Ready c.args.s = record { settings = c.requires.0; image = c.if-s-p.false } in
    let within : let a = c.args in in_cut c.args.s c.args.height c.args.width c.args.index ≡ true = sym c.in_cut.ensures ∙ not-false _ c.if-not-in_cut.false-raw in
    (ready, sides, ltb-true _ _ (within))

pub grid_side-gh-requires : goal.grid_side-gh-requires
grid_side-gh-requires c =
    let ready : Ready c.args.s = record { settings = c.requires.0; image = c.if-s-p.false } in
    let within : let a = c.args in in_cut c.args.s c.args.height c.args.width c.args.index ≡ true = sym c.in_cut.ensures ∙ not-false _ c.if-not-in_cut.false-raw in
    let inside : let a = c.args in Inside c.args.s c.args.height c.args.width c.args.index = inside_of _ _ _ _ (ready) (ltb-true _ _ (within)) in
    (ready, rw c.tile_view-v.ensures inside.tall)

pub grid_side-gw-requires : goal.grid_side-gw-requires
grid_side-gw-requires c =
    let ready : Ready c.args.s = record { settings = c.requires.0; image = c.if-s-p.false } in
    let within : let a = c.args in in_cut c.args.s c.args.height c.args.width c.args.index ≡ true = sym c.in_cut.ensures ∙ not-false _ c.if-not-in_cut.false-raw in
    let inside : let a = c.args in Inside c.args.s c.args.height c.args.width c.args.index = inside_of _ _ _ _ (ready) (ltb-true _ _ (within)) in
    (ready, rw c.tile_view-v.ensures inside.wide)

pub overflow_mul-floats : goal.overflow_mul-floats
overflow_mul-floats c =
    let ready : Ready c.args.s = record { settings = c.requires.0; image = c.if-s-p.false } in
    let within : let a = c.args in in_cut c.args.s c.args.height c.args.width c.args.index ≡ true = sym c.in_cut.ensures ∙ not-false _ c.if-not-in_cut.false-raw in
    let inside : let a = c.args in Inside c.args.s c.args.height c.args.width c.args.index = inside_of _ _ _ _ (ready) (ltb-true _ _ (within)) in
    let tall : let a = c.args in
    c.grid_side-gh.result ≡ grid_h c.args.s c.args.height c.args.width c.args.index = let s = c.args.s in
    c.grid_side-gh.ensures ∙ ap (λ (v : View). up (align s) v.height / c.args.s.patch_size) c.tile_view-v.ensures in
    let wide : let a = c.args in
    c.grid_side-gw.result ≡ grid_w c.args.s c.args.width c.args.index = let s = c.args.s in
    c.grid_side-gw.ensures ∙ ap (λ (v : View). up (align s) v.width / c.args.s.patch_size) c.tile_view-v.ensures in
    rw (tall, wide) (omega (arith, inside.tokens))

pub overflow_mul-floats-2 : goal.overflow_mul-floats-2
overflow_mul-floats-2 c =
    let ready : Ready c.args.s = record { settings = c.requires.0; image = c.if-s-p.false } in
    let within : let a = c.args in in_cut c.args.s c.args.height c.args.width c.args.index ≡ true = sym c.in_cut.ensures ∙ not-false _ c.if-not-in_cut.false-raw in
    let inside : let a = c.args in Inside c.args.s c.args.height c.args.width c.args.index = inside_of _ _ _ _ (ready) (ltb-true _ _ (within)) in
    omega (arith, inside.patch)

pub overflow_mul-floats-3 : goal.overflow_mul-floats-3
overflow_mul-floats-3 c =
    let ready : Ready c.args.s = record { settings = c.requires.0; image = c.if-s-p.false } in
    let within : let a = c.args in in_cut c.args.s c.args.height c.args.width c.args.index ≡ true = sym c.in_cut.ensures ∙ not-false _ c.if-not-in_cut.false-raw in
    let inside : let a = c.args in Inside c.args.s c.args.height c.args.width c.args.index = inside_of _ _ _ _ (ready) (ltb-true _ _ (within)) in
    omega (arith, inside.patch)

pub overflow_mul-floats-4 : goal.overflow_mul-floats-4
overflow_mul-floats-4 c =
    let ready : Ready c.args.s = record { settings = c.requires.0; image = c.if-s-p.false } in
    let within : let a = c.args in in_cut c.args.s c.args.height c.args.width c.args.index ≡ true = sym c.in_cut.ensures ∙ not-false _ c.if-not-in_cut.false-raw in
    let inside : let a = c.args in Inside c.args.s c.args.height c.args.width c.args.index = inside_of _ _ _ _ (ready) (ltb-true _ _ (within)) in
    let tall : let a = c.args in
    c.grid_side-gh.result ≡ grid_h c.args.s c.args.height c.args.width c.args.index = let s = c.args.s in
    c.grid_side-gh.ensures ∙ ap (λ (v : View). up (align s) v.height / c.args.s.patch_size) c.tile_view-v.ensures in
    let wide : let a = c.args in
    c.grid_side-gw.result ≡ grid_w c.args.s c.args.width c.args.index = let s = c.args.s in
    c.grid_side-gw.ensures ∙ ap (λ (v : View). up (align s) v.width / c.args.s.patch_size) c.tile_view-v.ensures in
    rw (tall, wide) (omega (arith, inside.floats))

pub returns-then-out-floats : goal.returns-then-out-floats
unfolding tiled
returns-then-out-floats c =
    let channels : channels_allowed (value_of c.args.s) ≡ true = let a = c.args in sym (allowed_of c.args.s.mean c.args.s.deviation c.args.t.now c.requires.2) ∙ c.requires.1 in
    let sides : let a = c.args in sided c.args.height c.args.width ≡ true = sym c.sides_allowed.ensures ∙ not-false _ c.if-not-sides_allowed.false-raw in
    let within : let a = c.args in in_cut c.args.s c.args.height c.args.width c.args.index ≡ true = sym c.in_cut.ensures ∙ not-false _ c.if-not-in_cut.false-raw in
    let tall : let a = c.args in
    c.grid_side-gh.result ≡ grid_h c.args.s c.args.height c.args.width c.args.index = let s = c.args.s in
    c.grid_side-gh.ensures ∙ ap (λ (v : View). up (align s) v.height / c.args.s.patch_size) c.tile_view-v.ensures in
    let wide : let a = c.args in
    c.grid_side-gw.result ≡ grid_w c.args.s c.args.width c.args.index = let s = c.args.s in
    c.grid_side-gw.ensures ∙ ap (λ (v : View). up (align s) v.width / c.args.s.patch_size) c.tile_view-v.ensures in
    let counted : let a = c.args in
    c.grid_side-gh.result * c.grid_side-gw.result * patch_floats c.args.s.patch_size ≡ tile_floats c.args.s c.args.height c.args.width c.args.index = rw (tall, wide) refl in
    let a = c.args in
    let e = c.requires.0 in
    let d = channels in
    let g = sides in
    let k = eq-eqb _ _ c.if-rgb-height.false in
    let l = le-leb _ _ c.if-s-p.false in
    let m = within in
    let o = lt-leb (tile_floats c.args.s c.args.height c.args.width c.args.index) (length c.args.out.now) (omega (arith, c.if-out-floats.true, counted)) in record {
      answer = simp (e, d, g, k, l, m, o);
      output = simp (e, d, g, k, l, m, o);
    }

pub overflow_mul-gh : goal.overflow_mul-gh
overflow_mul-gh c =
    let ready : Ready c.args.s = record { settings = c.requires.0; image = c.if-s-p.false } in
    let within : let a = c.args in in_cut c.args.s c.args.height c.args.width c.args.index ≡ true = sym c.in_cut.ensures ∙ not-false _ c.if-not-in_cut.false-raw in
    let inside : let a = c.args in Inside c.args.s c.args.height c.args.width c.args.index = inside_of _ _ _ _ (ready) (ltb-true _ _ (within)) in
    let tall : let a = c.args in
    c.grid_side-gh.result ≡ grid_h c.args.s c.args.height c.args.width c.args.index = let s = c.args.s in
    c.grid_side-gh.ensures ∙ ap (λ (v : View). up (align s) v.height / c.args.s.patch_size) c.tile_view-v.ensures in
    rw (tall) (omega (arith, inside.span-tall))

pub overflow_mul-gw : goal.overflow_mul-gw
overflow_mul-gw c =
    let ready : Ready c.args.s = record { settings = c.requires.0; image = c.if-s-p.false } in
    let within : let a = c.args in in_cut c.args.s c.args.height c.args.width c.args.index ≡ true = sym c.in_cut.ensures ∙ not-false _ c.if-not-in_cut.false-raw in
    let inside : let a = c.args in Inside c.args.s c.args.height c.args.width c.args.index = inside_of _ _ _ _ (ready) (ltb-true _ _ (within)) in
    let wide : let a = c.args in
    c.grid_side-gw.result ≡ grid_w c.args.s c.args.width c.args.index = let s = c.args.s in
    c.grid_side-gw.ensures ∙ ap (λ (v : View). up (align s) v.width / c.args.s.patch_size) c.tile_view-v.ensures in
    rw (wide) (omega (arith, inside.span-wide))

pub returns : goal.returns
returns c =
    let tall : let a = c.args in
    c.grid_side-gh.result ≡ grid_h c.args.s c.args.height c.args.width c.args.index = let s = c.args.s in
    c.grid_side-gh.ensures ∙ ap (λ (v : View). up (align s) v.height / c.args.s.patch_size) c.tile_view-v.ensures in
    let wide : let a = c.args in
    c.grid_side-gw.result ≡ grid_w c.args.s c.args.width c.args.index = let s = c.args.s in
    c.grid_side-gw.ensures ∙ ap (λ (v : View). up (align s) v.width / c.args.s.patch_size) c.tile_view-v.ensures in
    let channels : channels_allowed (value_of c.args.s) ≡ true = let a = c.args in sym (allowed_of c.args.s.mean c.args.s.deviation c.args.t.now c.requires.2) ∙ c.requires.1 in
    let sides : let a = c.args in sided c.args.height c.args.width ≡ true = sym c.sides_allowed.ensures ∙ not-false _ c.if-not-sides_allowed.false-raw in
    let ready : Ready c.args.s = record { settings = c.requires.0; image = c.if-s-p.false } in
    let within : let a = c.args in in_cut c.args.s c.args.height c.args.width c.args.index ≡ true = sym c.in_cut.ensures ∙ not-false _ c.if-not-in_cut.false-raw in
    let counted : let a = c.args in
    c.grid_side-gh.result * c.grid_side-gw.result * patch_floats c.args.s.patch_size ≡ tile_floats c.args.s c.args.height c.args.width c.args.index = rw (tall, wide) refl in
    let asked : let a = c.args in
    Taken c.args.s (length c.args.rgb.now) c.args.height c.args.width c.args.index (length c.args.out.now) = record {
      ready = ready;
      channels = channels;
      sides = sides;
      bytes = c.if-rgb-height.false;
      cut = ltb-true _ _ (within);
      space = omega (arith, c.if-out-floats.false, counted);
    } in
    let a = c.args in
    let q = asked in
    let gh = tall in
    let gw = wide in record {
      answer = rw (taken c.args.s (length c.args.rgb.now) c.args.height c.args.width c.args.index (length c.args.out.now) q, gh, gw, c.tile_view-v.ensures) refl;
      output = tile-wrote c.args.s c.args.t.now c.requires.2 c.args.rgb.now c.args.height c.args.width c.args.index c.args.out.now _ c.tile_view-v.result _ _ q
          (λ n. (c.shared_slice_known-1.given n).fits) c.tile_view-v.ensures gh gw c.view_patches.ensures;
    }
