-- `picture_tiles::restore::restore_tile_by` meets its contract. Assumes nothing.
use Rattle.std.specs.Prelude.{Result, Ok, Err}
use mathlib.Core.Path.{◌≡◌, refl, sym, ap, ◌∙◌}
use mathlib.Core.Bool.{Bool, true, false, ◌&&◌, cond}
use Prim.Native.Nat.{◌*◌, ◌/◌, ◌≤◌}
use native.Mathlib.Omega.{arith}
use borrow.Author.Tests.{not-true, not-false, eq-eqb, ne_eqb, le-leb, lt-leb, ltb-true}
use lib.ListN.{length}
use Rattle.buffers.proofs.Lists.{and-true}
use Rattle.picture_limits.specs.declared.View.{View}
use Rattle.picture_limits.specs.Settings.{sided, align}
use Rattle.picture_limits.specs.Places.{patch_floats}
use Rattle.picture_limits.proofs.Places.{times}
use Rattle.picture_limits.proofs.Sides.{allowed-says, sided-says}
use Rattle.picture_samples.specs.Samples.{channels_allowed, value_of, pattern_of, entry}
use Rattle.picture_samples.proofs.Channels.{allowed_of}
use Rattle.picture_view.specs.Known.{known}
use Rattle.picture_view.specs.View.{view_out}
use Rattle.picture_tiles.specs.Cut.{Ready, up, in_cut, grid_h, grid_w}
use Rattle.picture_tiles.specs.Tile.{padded, tile_known}
use Rattle.picture_limits.specs.declared.Refusal.TheVariants.{Sample}
use Rattle.picture_tiles.specs.Answer.{tile_floats, tile_of, untiled, bytes_out}
use Rattle.picture_tiles.proofs.Bounds.{Inside, inside_of}
use Rattle.picture_tiles.specs.Undo.{Given}
use Rattle.picture_tiles.proofs.Answers.{given, padded-is, back_is, restored-out}
use Rattle.picture_tiles.proofs.restore.restore_tile_by.Goals as goal

pub returns-then-not-sides_allowed : goal.returns-then-not-sides_allowed
unfolding untiled
returns-then-not-sides_allowed c =
    let channels : channels_allowed (value_of c.args.s) ≡ true = let a = c.args in sym (allowed_of c.args.s.mean c.args.s.deviation c.args.t.now c.requires.2) ∙ c.requires.1 in
    let a = c.args in
    let e = c.requires.0 in
    let d = channels in
    let g : sided c.args.height c.args.width ≡ false = sym c.sides_allowed.ensures ∙ not-true _ c.if-not-sides_allowed.true-raw in record {
      answer = simp (e, d, g);
      output = simp (e, d, g);
    }

pub overflow_mul-p : goal.overflow_mul-p
overflow_mul-p c =
    let s = c.args.s in
    let o = allowed-says s c.requires.0 in
    omega (arith, times c.args.s.patch_size c.args.s.spatial_merge_size 32 4 o.patch-high o.merge-high)

pub returns-then-s-p : goal.returns-then-s-p
unfolding untiled
returns-then-s-p c =
    let channels : channels_allowed (value_of c.args.s) ≡ true = let a = c.args in sym (allowed_of c.args.s.mean c.args.s.deviation c.args.t.now c.requires.2) ∙ c.requires.1 in
    let sides : let a = c.args in sided c.args.height c.args.width ≡ true = sym c.sides_allowed.ensures ∙ not-false _ c.if-not-sides_allowed.false-raw in
    let e = c.requires.0 in
    let d = channels in
    let g = sides in
    let l = lt-leb _ _ c.if-s-p.true in record {
      answer = simp (e, d, g, l);
      output = simp (e, d, g, l);
    }

pub in_cut-requires : goal.in_cut-requires
in_cut-requires c =
    let sides : sided c.args.height c.args.width ≡ true = sym c.sides_allowed.ensures ∙ not-false _ c.if-not-sides_allowed.false-raw in
    let ready : Ready c.args.s = record { settings = c.requires.0; image = c.if-s-p.false } in
    (ready, sides)

pub returns-then-not-in_cut : goal.returns-then-not-in_cut
unfolding untiled
returns-then-not-in_cut c =
    let channels : channels_allowed (value_of c.args.s) ≡ true = let a = c.args in sym (allowed_of c.args.s.mean c.args.s.deviation c.args.t.now c.requires.2) ∙ c.requires.1 in
    let sides : let a = c.args in sided c.args.height c.args.width ≡ true = sym c.sides_allowed.ensures ∙ not-false _ c.if-not-sides_allowed.false-raw in
    let a = c.args in
    let e = c.requires.0 in
    let d = channels in
    let g = sides in
    let l = le-leb _ _ c.if-s-p.false in
    let m : in_cut c.args.s c.args.height c.args.width c.args.index ≡ false = sym c.in_cut.ensures ∙ not-true _ c.if-not-in_cut.true-raw in record {
      answer = simp (e, d, g, l, m);
      output = simp (e, d, g, l, m);
    }

pub tile_view-v-requires : goal.tile_view-v-requires
tile_view-v-requires c =
    let sides : let a = c.args in sided c.args.height c.args.width ≡ true = sym c.sides_allowed.ensures ∙ not-false _ c.if-not-sides_allowed.false-raw in
    let ready : Ready c.args.s = record { settings = c.requires.0; image = c.if-s-p.false } in
    let within : let a = c.args in in_cut c.args.s c.args.height c.args.width c.args.index ≡ true = sym c.in_cut.ensures ∙ not-false _ c.if-not-in_cut.false-raw in
    (ready, sides, ltb-true _ _ (within))

pub grid_side-gh-requires : goal.grid_side-gh-requires
grid_side-gh-requires c =
    let ready : Ready c.args.s = record { settings = c.requires.0; image = c.if-s-p.false } in
    let within : let a = c.args in in_cut c.args.s c.args.height c.args.width c.args.index ≡ true = sym c.in_cut.ensures ∙ not-false _ c.if-not-in_cut.false-raw in
    let inside : let a = c.args in Inside c.args.s c.args.height c.args.width c.args.index = inside_of _ _ _ _ (ready) (ltb-true _ _ (within)) in
    (ready, rw c.tile_view-v.ensures inside.tall)

pub grid_side-gw-requires : goal.grid_side-gw-requires
grid_side-gw-requires c =
    let ready : Ready c.args.s = record { settings = c.requires.0; image = c.if-s-p.false } in
    let within : let a = c.args in in_cut c.args.s c.args.height c.args.width c.args.index ≡ true = sym c.in_cut.ensures ∙ not-false _ c.if-not-in_cut.false-raw in
    let inside : let a = c.args in Inside c.args.s c.args.height c.args.width c.args.index = inside_of _ _ _ _ (ready) (ltb-true _ _ (within)) in
    (ready, rw c.tile_view-v.ensures inside.wide)

pub overflow_mul-floats : goal.overflow_mul-floats
overflow_mul-floats c =
    let ready : Ready c.args.s = record { settings = c.requires.0; image = c.if-s-p.false } in
    let within : let a = c.args in in_cut c.args.s c.args.height c.args.width c.args.index ≡ true = sym c.in_cut.ensures ∙ not-false _ c.if-not-in_cut.false-raw in
    let inside : let a = c.args in Inside c.args.s c.args.height c.args.width c.args.index = inside_of _ _ _ _ (ready) (ltb-true _ _ (within)) in
    let tall : let a = c.args in
    c.grid_side-gh.result ≡ grid_h c.args.s c.args.height c.args.width c.args.index = let s = c.args.s in
    c.grid_side-gh.ensures ∙ ap (λ (v : View). up (align s) v.height / c.args.s.patch_size) c.tile_view-v.ensures in
    let wide : let a = c.args in
    c.grid_side-gw.result ≡ grid_w c.args.s c.args.width c.args.index = let s = c.args.s in
    c.grid_side-gw.ensures ∙ ap (λ (v : View). up (align s) v.width / c.args.s.patch_size) c.tile_view-v.ensures in
    rw (tall, wide) (omega (arith, inside.tokens))

pub overflow_mul-floats-2 : goal.overflow_mul-floats-2
overflow_mul-floats-2 c =
    let ready : Ready c.args.s = record { settings = c.requires.0; image = c.if-s-p.false } in
    let within : let a = c.args in in_cut c.args.s c.args.height c.args.width c.args.index ≡ true = sym c.in_cut.ensures ∙ not-false _ c.if-not-in_cut.false-raw in
    let inside : let a = c.args in Inside c.args.s c.args.height c.args.width c.args.index = inside_of _ _ _ _ (ready) (ltb-true _ _ (within)) in
    omega (arith, inside.patch)

pub overflow_mul-floats-3 : goal.overflow_mul-floats-3
overflow_mul-floats-3 c =
    let ready : Ready c.args.s = record { settings = c.requires.0; image = c.if-s-p.false } in
    let within : let a = c.args in in_cut c.args.s c.args.height c.args.width c.args.index ≡ true = sym c.in_cut.ensures ∙ not-false _ c.if-not-in_cut.false-raw in
    let inside : let a = c.args in Inside c.args.s c.args.height c.args.width c.args.index = inside_of _ _ _ _ (ready) (ltb-true _ _ (within)) in
    omega (arith, inside.patch)

pub overflow_mul-floats-4 : goal.overflow_mul-floats-4
overflow_mul-floats-4 c =
    let ready : Ready c.args.s = record { settings = c.requires.0; image = c.if-s-p.false } in
    let within : let a = c.args in in_cut c.args.s c.args.height c.args.width c.args.index ≡ true = sym c.in_cut.ensures ∙ not-false _ c.if-not-in_cut.false-raw in
    let inside : let a = c.args in Inside c.args.s c.args.height c.args.width c.args.index = inside_of _ _ _ _ (ready) (ltb-true _ _ (within)) in
    let tall : let a = c.args in
    c.grid_side-gh.result ≡ grid_h c.args.s c.args.height c.args.width c.args.index = let s = c.args.s in
    c.grid_side-gh.ensures ∙ ap (λ (v : View). up (align s) v.height / c.args.s.patch_size) c.tile_view-v.ensures in
    let wide : let a = c.args in
    c.grid_side-gw.result ≡ grid_w c.args.s c.args.width c.args.index = let s = c.args.s in
    c.grid_side-gw.ensures ∙ ap (λ (v : View). up (align s) v.width / c.args.s.patch_size) c.tile_view-v.ensures in
    rw (tall, wide) (omega (arith, inside.floats))

pub returns-then-patches-floats : goal.returns-then-patches-floats
unfolding untiled
returns-then-patches-floats c =
    let channels : channels_allowed (value_of c.args.s) ≡ true = let a = c.args in sym (allowed_of c.args.s.mean c.args.s.deviation c.args.t.now c.requires.2) ∙ c.requires.1 in
    let sides : let a = c.args in sided c.args.height c.args.width ≡ true = sym c.sides_allowed.ensures ∙ not-false _ c.if-not-sides_allowed.false-raw in
    let within : let a = c.args in in_cut c.args.s c.args.height c.args.width c.args.index ≡ true = sym c.in_cut.ensures ∙ not-false _ c.if-not-in_cut.false-raw in
    let tall : let a = c.args in
    c.grid_side-gh.result ≡ grid_h c.args.s c.args.height c.args.width c.args.index = let s = c.args.s in
    c.grid_side-gh.ensures ∙ ap (λ (v : View). up (align s) v.height / c.args.s.patch_size) c.tile_view-v.ensures in
    let wide : let a = c.args in
    c.grid_side-gw.result ≡ grid_w c.args.s c.args.width c.args.index = let s = c.args.s in
    c.grid_side-gw.ensures ∙ ap (λ (v : View). up (align s) v.width / c.args.s.patch_size) c.tile_view-v.ensures in
    let counted : let a = c.args in
    c.grid_side-gh.result * c.grid_side-gw.result * patch_floats c.args.s.patch_size ≡ tile_floats c.args.s c.args.height c.args.width c.args.index = rw (tall, wide) refl in
    let a = c.args in
    let e = c.requires.0 in
    let d = channels in
    let g = sides in
    let l = le-leb _ _ c.if-s-p.false in
    let m = within in
    let o = ne_eqb (length c.args.patches.now) (tile_floats c.args.s c.args.height c.args.width c.args.index) (λ x. c.if-patches-floats.true (x ∙ sym (counted))) in record {
      answer = simp (e, d, g, l, m, o);
      output = simp (e, d, g, l, m, o);
    }

pub overflow_mul-height : goal.overflow_mul-height
overflow_mul-height c =
    let sides : let a = c.args in sided c.args.height c.args.width ≡ true = sym c.sides_allowed.ensures ∙ not-false _ c.if-not-sides_allowed.false-raw in
    let pixels : let a = c.args in c.args.height * c.args.width ≤ 67108864 = let a = c.args in let t = sided-says c.args.height c.args.width (sides) in times c.args.height c.args.width 8192 8192 t.1 t.3 in
    omega (arith, pixels)

pub overflow_mul-height-2 : goal.overflow_mul-height-2
overflow_mul-height-2 c =
    let sides : let a = c.args in sided c.args.height c.args.width ≡ true = sym c.sides_allowed.ensures ∙ not-false _ c.if-not-sides_allowed.false-raw in
    let pixels : let a = c.args in c.args.height * c.args.width ≤ 67108864 = let a = c.args in let t = sided-says c.args.height c.args.width (sides) in times c.args.height c.args.width 8192 8192 t.1 t.3 in
    omega (arith, pixels)

pub returns-then-out-height : goal.returns-then-out-height
unfolding untiled
returns-then-out-height c =
    let channels : channels_allowed (value_of c.args.s) ≡ true = let a = c.args in sym (allowed_of c.args.s.mean c.args.s.deviation c.args.t.now c.requires.2) ∙ c.requires.1 in
    let sides : let a = c.args in sided c.args.height c.args.width ≡ true = sym c.sides_allowed.ensures ∙ not-false _ c.if-not-sides_allowed.false-raw in
    let within : let a = c.args in in_cut c.args.s c.args.height c.args.width c.args.index ≡ true = sym c.in_cut.ensures ∙ not-false _ c.if-not-in_cut.false-raw in
    let tall : let a = c.args in
    c.grid_side-gh.result ≡ grid_h c.args.s c.args.height c.args.width c.args.index = let s = c.args.s in
    c.grid_side-gh.ensures ∙ ap (λ (v : View). up (align s) v.height / c.args.s.patch_size) c.tile_view-v.ensures in
    let wide : let a = c.args in
    c.grid_side-gw.result ≡ grid_w c.args.s c.args.width c.args.index = let s = c.args.s in
    c.grid_side-gw.ensures ∙ ap (λ (v : View). up (align s) v.width / c.args.s.patch_size) c.tile_view-v.ensures in
    let counted : let a = c.args in
    c.grid_side-gh.result * c.grid_side-gw.result * patch_floats c.args.s.patch_size ≡ tile_floats c.args.s c.args.height c.args.width c.args.index = rw (tall, wide) refl in
    let a = c.args in
    let e = c.requires.0 in
    let d = channels in
    let g = sides in
    let l = le-leb _ _ c.if-s-p.false in
    let m = within in
    let o = eq-eqb (length c.args.patches.now) (tile_floats c.args.s c.args.height c.args.width c.args.index) (c.if-patches-floats.false ∙ counted) in
    let n = lt-leb _ _ c.if-out-height.true in record {
      answer = simp (e, d, g, l, m, o, n);
      output = simp (e, d, g, l, m, o, n);
    }

pub zero_rows-requires : goal.zero_rows-requires
zero_rows-requires c =
    let ready : Ready c.args.s = record { settings = c.requires.0; image = c.if-s-p.false } in
    let within : let a = c.args in in_cut c.args.s c.args.height c.args.width c.args.index ≡ true = sym c.in_cut.ensures ∙ not-false _ c.if-not-in_cut.false-raw in
    let inside : let a = c.args in Inside c.args.s c.args.height c.args.width c.args.index = inside_of _ _ _ _ (ready) (ltb-true _ _ (within)) in
    let tall : let a = c.args in
    c.grid_side-gh.result ≡ grid_h c.args.s c.args.height c.args.width c.args.index = let s = c.args.s in
    c.grid_side-gh.ensures ∙ ap (λ (v : View). up (align s) v.height / c.args.s.patch_size) c.tile_view-v.ensures in
    let wide : let a = c.args in
    c.grid_side-gw.result ≡ grid_w c.args.s c.args.width c.args.index = let s = c.args.s in
    c.grid_side-gw.ensures ∙ ap (λ (v : View). up (align s) v.width / c.args.s.patch_size) c.tile_view-v.ensures in
    let channels : channels_allowed (value_of c.args.s) ≡ true = let a = c.args in sym (allowed_of c.args.s.mean c.args.s.deviation c.args.t.now c.requires.2) ∙ c.requires.1 in
    let sides : let a = c.args in sided c.args.height c.args.width ≡ true = sym c.sides_allowed.ensures ∙ not-false _ c.if-not-sides_allowed.false-raw in
    let counted : let a = c.args in
    c.grid_side-gh.result * c.grid_side-gw.result * patch_floats c.args.s.patch_size ≡ tile_floats c.args.s c.args.height c.args.width c.args.index = rw (tall, wide) refl in
    let asked : let a = c.args in
    Given c.args.s (length c.args.patches.now) c.args.height c.args.width c.args.index (length c.args.out.now) = record {
      ready = ready;
      channels = channels;
      sides = sides;
      cut = ltb-true _ _ (within);
      samples = c.if-patches-floats.false ∙ counted;
      space = c.if-out-height.false;
    } in
    let z = inside in
    let o = allowed-says _ ready.settings in
    let v = c.tile_view-v.ensures in
    rw (tall, wide, v) (o.patch-low, o.patch-high, z.grid-tall, z.grid-wide, asked.samples, z.columns)

and-false : (b : Bool) → (b && false) ≡ false
and-false true = refl
and-false false = refl

pub returns-then-not-zero_rows : goal.returns-then-not-zero_rows
returns-then-not-zero_rows c =
    let channels : channels_allowed (value_of c.args.s) ≡ true = let a = c.args in sym (allowed_of c.args.s.mean c.args.s.deviation c.args.t.now c.requires.2) ∙ c.requires.1 in
    let sides : let a = c.args in sided c.args.height c.args.width ≡ true = sym c.sides_allowed.ensures ∙ not-false _ c.if-not-sides_allowed.false-raw in
    let ready : Ready c.args.s = record { settings = c.requires.0; image = c.if-s-p.false } in
    let within : let a = c.args in in_cut c.args.s c.args.height c.args.width c.args.index ≡ true = sym c.in_cut.ensures ∙ not-false _ c.if-not-in_cut.false-raw in
    let tall : let a = c.args in
    c.grid_side-gh.result ≡ grid_h c.args.s c.args.height c.args.width c.args.index = let s = c.args.s in
    c.grid_side-gh.ensures ∙ ap (λ (v : View). up (align s) v.height / c.args.s.patch_size) c.tile_view-v.ensures in
    let wide : let a = c.args in
    c.grid_side-gw.result ≡ grid_w c.args.s c.args.width c.args.index = let s = c.args.s in
    c.grid_side-gw.ensures ∙ ap (λ (v : View). up (align s) v.width / c.args.s.patch_size) c.tile_view-v.ensures in
    let counted : let a = c.args in
    c.grid_side-gh.result * c.grid_side-gw.result * patch_floats c.args.s.patch_size ≡ tile_floats c.args.s c.args.height c.args.width c.args.index = rw (tall, wide) refl in
    let asked : let a = c.args in
    Given c.args.s (length c.args.patches.now) c.args.height c.args.width c.args.index (length c.args.out.now) = record {
      ready = ready;
      channels = channels;
      sides = sides;
      cut = ltb-true _ _ (within);
      samples = c.if-patches-floats.false ∙ counted;
      space = c.if-out-height.false;
    } in
    let padding : let a = c.args in
    c.zero_rows.result ≡ padded (pattern_of c.args.s) c.args.s c.args.patches.now c.args.height c.args.width c.args.index = let x = c.before.before in
    let r = c.before.before.before.before.before.before.before.before.before.before.before.before.before.before.before.before in
    let a = c.args in
    let g = c.before.before.before.before in
    c.zero_rows.ensures
    ∙ rw (tall, wide, c.tile_view-v.ensures) (padded-is c.args.s c.args.t.now c.requires.2 c.args.patches.now c.args.height c.args.width c.args.index (length c.args.out.now) (asked)) in
    let x = c.before.before in
    let r = c.before.before.before.before.before.before.before.before.before.before.before.before.before.before.before.before in
    let a = c.args in
    let k = known (pattern_of c.args.s) c.args.s.patch_size c.args.patches.now in
    let e : tile_known (pattern_of c.args.s) c.args.s c.args.patches.now c.args.height c.args.width c.args.index ≡ false = ap (λ (b : Bool). k && b) (sym (padding) ∙ not-true _ c.if-not-zero_rows.true-raw) ∙ and-false k in
    let g = given c.args.s c.args.patches.now c.args.height c.args.width c.args.index (length c.args.out.now) (asked) false e in record {
      answer = rw g refl;
      output = rw g refl;
    }

pub returns-then-not-restore_view : goal.returns-then-not-restore_view
returns-then-not-restore_view c =
    let tall : let a = c.args in
    c.grid_side-gh.result ≡ grid_h c.args.s c.args.height c.args.width c.args.index = let s = c.args.s in
    c.grid_side-gh.ensures ∙ ap (λ (v : View). up (align s) v.height / c.args.s.patch_size) c.tile_view-v.ensures in
    let wide : let a = c.args in
    c.grid_side-gw.result ≡ grid_w c.args.s c.args.width c.args.index = let s = c.args.s in
    c.grid_side-gw.ensures ∙ ap (λ (v : View). up (align s) v.width / c.args.s.patch_size) c.tile_view-v.ensures in
    let channels : channels_allowed (value_of c.args.s) ≡ true = let a = c.args in sym (allowed_of c.args.s.mean c.args.s.deviation c.args.t.now c.requires.2) ∙ c.requires.1 in
    let sides : let a = c.args in sided c.args.height c.args.width ≡ true = sym c.sides_allowed.ensures ∙ not-false _ c.if-not-sides_allowed.false-raw in
    let ready : Ready c.args.s = record { settings = c.requires.0; image = c.if-s-p.false } in
    let within : let a = c.args in in_cut c.args.s c.args.height c.args.width c.args.index ≡ true = sym c.in_cut.ensures ∙ not-false _ c.if-not-in_cut.false-raw in
    let counted : let a = c.args in
    c.grid_side-gh.result * c.grid_side-gw.result * patch_floats c.args.s.patch_size ≡ tile_floats c.args.s c.args.height c.args.width c.args.index = rw (tall, wide) refl in
    let asked : let a = c.args in
    Given c.args.s (length c.args.patches.now) c.args.height c.args.width c.args.index (length c.args.out.now) = record {
      ready = ready;
      channels = channels;
      sides = sides;
      cut = ltb-true _ _ (within);
      samples = c.if-patches-floats.false ∙ counted;
      space = c.if-out-height.false;
    } in
    let padding : let a = c.args in
    c.zero_rows.result ≡ padded (pattern_of c.args.s) c.args.s c.args.patches.now c.args.height c.args.width c.args.index = let x = c.before.before.before.before.before.before.before in
    let r = c.before.before.before.before.before.before.before.before.before.before.before.before.before.before.before.before.before.before.before.before.before in
    let a = c.args in
    let g = c.before.before.before.before.before.before.before.before.before in
    c.zero_rows.ensures
    ∙ rw (tall, wide, c.tile_view-v.ensures) (padded-is c.args.s c.args.t.now c.requires.2 c.args.patches.now c.args.height c.args.width c.args.index (length c.args.out.now) (asked)) in
    let passed : let a = c.args in
    padded (pattern_of c.args.s) c.args.s c.args.patches.now c.args.height c.args.width c.args.index ≡ true = sym (padding) ∙ not-false _ c.if-not-zero_rows.false-raw in
    let told : let a = c.args in
    c.restore_view.result ≡ tile_known (pattern_of c.args.s) c.args.s c.args.patches.now c.args.height c.args.width c.args.index = let y = c.before.before.before.before.before in
    let x = c.before.before.before.before.before.before.before in
    let r = c.before.before.before.before.before.before.before.before.before.before.before.before.before.before.before.before.before.before.before.before.before in
    let a = c.args in
    let g = c.before.before.before.before.before.before.before.before.before in
    c.restore_view.ensures.answer
    ∙ rw (tall, wide, c.tile_view-v.ensures)
    (back_is c.args.s c.args.t.now c.requires.2 c.args.patches.now c.args.height c.args.width c.args.index (length c.args.out.now) (asked)
    ∙ sym (ap (λ (b : Bool). known (pattern_of c.args.s) c.args.s.patch_size c.args.patches.now && b) (passed) ∙ and-true (known (pattern_of c.args.s) c.args.s.patch_size c.args.patches.now))) in
    let ends : let a = c.args in
    let g = c.before.before.before.before.before.before.before.before.before in
    (b : Bool) → c.restore_view.result ≡ b
    → (untiled c.args.s c.args.patches.now c.args.height c.args.width c.args.index (length c.args.out.now) ≡ cond b (tile_of c.args.s c.args.height c.args.width c.args.index) (Err Sample))
    × (view_out (entry c.args.t.now) c.args.s.patch_size c.grid_side-gh.result c.grid_side-gw.result c.args.patches.now c.tile_view-v.result c.args.height c.args.width c.args.out.now ≡ bytes_out c.args.s c.args.patches.now c.args.height c.args.width c.args.index c.args.out.now) = λ b e. let y = c.before.before.before.before.before in
    let x = c.before.before.before.before.before.before.before in
    let r = c.before.before.before.before.before.before.before.before.before.before.before.before.before.before.before.before.before.before.before.before.before in
    let a = c.args in
    let g = c.before.before.before.before.before.before.before.before.before in
    let q = asked in
    let k = sym (told) ∙ e in
    let n : known (pattern_of c.args.s) c.args.s.patch_size c.args.patches.now ≡ b = sym (ap (λ (t : Bool). known (pattern_of c.args.s) c.args.s.patch_size c.args.patches.now && t) (passed) ∙ and-true (known (pattern_of c.args.s) c.args.s.patch_size c.args.patches.now)) ∙ k in (
      given c.args.s c.args.patches.now c.args.height c.args.width c.args.index (length c.args.out.now) q b k,
      rw (tall, wide, c.tile_view-v.ensures) (restored-out c.args.s c.args.t.now c.requires.2 c.args.patches.now c.args.height c.args.width c.args.index (length c.args.out.now) q c.args.out.now b refl k n),
    ) in
    let z = ends false (not-true _ c.if-not-restore_view.true-raw) in record {
      answer = sym z.0;
      output = c.restore_view.ensures.output ∙ z.1;
    }

pub returns : goal.returns
returns c =
    let tall : let a = c.args in
    c.grid_side-gh.result ≡ grid_h c.args.s c.args.height c.args.width c.args.index = let s = c.args.s in
    c.grid_side-gh.ensures ∙ ap (λ (v : View). up (align s) v.height / c.args.s.patch_size) c.tile_view-v.ensures in
    let wide : let a = c.args in
    c.grid_side-gw.result ≡ grid_w c.args.s c.args.width c.args.index = let s = c.args.s in
    c.grid_side-gw.ensures ∙ ap (λ (v : View). up (align s) v.width / c.args.s.patch_size) c.tile_view-v.ensures in
    let channels : channels_allowed (value_of c.args.s) ≡ true = let a = c.args in sym (allowed_of c.args.s.mean c.args.s.deviation c.args.t.now c.requires.2) ∙ c.requires.1 in
    let sides : let a = c.args in sided c.args.height c.args.width ≡ true = sym c.sides_allowed.ensures ∙ not-false _ c.if-not-sides_allowed.false-raw in
    let ready : Ready c.args.s = record { settings = c.requires.0; image = c.if-s-p.false } in
    let within : let a = c.args in in_cut c.args.s c.args.height c.args.width c.args.index ≡ true = sym c.in_cut.ensures ∙ not-false _ c.if-not-in_cut.false-raw in
    let counted : let a = c.args in
    c.grid_side-gh.result * c.grid_side-gw.result * patch_floats c.args.s.patch_size ≡ tile_floats c.args.s c.args.height c.args.width c.args.index = rw (tall, wide) refl in
    let asked : let a = c.args in
    Given c.args.s (length c.args.patches.now) c.args.height c.args.width c.args.index (length c.args.out.now) = record {
      ready = ready;
      channels = channels;
      sides = sides;
      cut = ltb-true _ _ (within);
      samples = c.if-patches-floats.false ∙ counted;
      space = c.if-out-height.false;
    } in
    let padding : let a = c.args in
    c.zero_rows.result ≡ padded (pattern_of c.args.s) c.args.s c.args.patches.now c.args.height c.args.width c.args.index = let x = c.before.before.before.before.before.before.before in
    let r = c.before.before.before.before.before.before.before.before.before.before.before.before.before.before.before.before.before.before.before.before.before in
    let a = c.args in
    let g = c.before.before.before.before.before.before.before.before.before in
    c.zero_rows.ensures
    ∙ rw (tall, wide, c.tile_view-v.ensures) (padded-is c.args.s c.args.t.now c.requires.2 c.args.patches.now c.args.height c.args.width c.args.index (length c.args.out.now) (asked)) in
    let passed : let a = c.args in
    padded (pattern_of c.args.s) c.args.s c.args.patches.now c.args.height c.args.width c.args.index ≡ true = sym (padding) ∙ not-false _ c.if-not-zero_rows.false-raw in
    let told : let a = c.args in
    c.restore_view.result ≡ tile_known (pattern_of c.args.s) c.args.s c.args.patches.now c.args.height c.args.width c.args.index = let y = c.before.before.before.before.before in
    let x = c.before.before.before.before.before.before.before in
    let r = c.before.before.before.before.before.before.before.before.before.before.before.before.before.before.before.before.before.before.before.before.before in
    let a = c.args in
    let g = c.before.before.before.before.before.before.before.before.before in
    c.restore_view.ensures.answer
    ∙ rw (tall, wide, c.tile_view-v.ensures)
    (back_is c.args.s c.args.t.now c.requires.2 c.args.patches.now c.args.height c.args.width c.args.index (length c.args.out.now) (asked)
    ∙ sym (ap (λ (b : Bool). known (pattern_of c.args.s) c.args.s.patch_size c.args.patches.now && b) (passed) ∙ and-true (known (pattern_of c.args.s) c.args.s.patch_size c.args.patches.now))) in
    let ends : let a = c.args in
    let g = c.before.before.before.before.before.before.before.before.before in
    (b : Bool) → c.restore_view.result ≡ b
    → (untiled c.args.s c.args.patches.now c.args.height c.args.width c.args.index (length c.args.out.now) ≡ cond b (tile_of c.args.s c.args.height c.args.width c.args.index) (Err Sample))
    × (view_out (entry c.args.t.now) c.args.s.patch_size c.grid_side-gh.result c.grid_side-gw.result c.args.patches.now c.tile_view-v.result c.args.height c.args.width c.args.out.now ≡ bytes_out c.args.s c.args.patches.now c.args.height c.args.width c.args.index c.args.out.now) = λ b e. let y = c.before.before.before.before.before in
    let x = c.before.before.before.before.before.before.before in
    let r = c.before.before.before.before.before.before.before.before.before.before.before.before.before.before.before.before.before.before.before.before.before in
    let a = c.args in
    let g = c.before.before.before.before.before.before.before.before.before in
    let q = asked in
    let k = sym (told) ∙ e in
    let n : known (pattern_of c.args.s) c.args.s.patch_size c.args.patches.now ≡ b = sym (ap (λ (t : Bool). known (pattern_of c.args.s) c.args.s.patch_size c.args.patches.now && t) (passed) ∙ and-true (known (pattern_of c.args.s) c.args.s.patch_size c.args.patches.now)) ∙ k in (
      given c.args.s c.args.patches.now c.args.height c.args.width c.args.index (length c.args.out.now) q b k,
      rw (tall, wide, c.tile_view-v.ensures) (restored-out c.args.s c.args.t.now c.requires.2 c.args.patches.now c.args.height c.args.width c.args.index (length c.args.out.now) q c.args.out.now b refl k n),
    ) in
    let z = ends true (not-false _ c.if-not-restore_view.false-raw) in
    let x = c.before.before.before.before.before.before.before in
    let g = c.before.before.before.before.before.before.before.before.before in record {
      answer = rw (z.0, tall, wide, c.tile_view-v.ensures) refl;
      output = c.restore_view.ensures.output ∙ z.1;
    }
