-- The five statements of specs/Undo.antt, and that no pixel is seen. Assumes nothing.
use Rattle.std.specs.Prelude.{Result, Ok, Err}
use mathlib.Core.Path.{◌≡◌, refl, sym, ap, ◌∙◌}
use mathlib.Core.Bool.{Bool, true, false}
use mathlib.Core.List.{List, [], ◌∷◌}
use Prim.Native.Nat.{ℕ, ◌*◌, ◌/◌, ◌%◌, ◌≤◌, ◌<◌}
use native.Mathlib.Nat.{le-div_iff_mul-le}
use native.Mathlib.Omega.{arith}
use native.Mathlib.Decide.{dec_lt}
use borrow.Author.Tests.{leb-true, eqb-true, ltb-true, le-leb, le-ltb, eq-eqb}
use lib.Dec.{leb, eqb}
use lib.ListN.{length}
use lib.Seq.{take_at}
use lib.Ieee.{Float, nan}
use Rattle.buffers.specs.Region.{put_rows}
use Rattle.buffers.specs.Lent.{Bytes}
use Rattle.buffers.proofs.Puts.{length-puts}
use Rattle.picture_limits.specs.declared.PictureSettings.{PictureSettings}
use Rattle.picture_limits.specs.declared.Refusal.{Refusal}
use Rattle.picture_limits.specs.declared.Refusal.TheVariants.{Setting, Side, RgbLength, ImageSize, Output, Sample, Channel, Tile}
use Rattle.picture_limits.specs.Settings.{allowed, sided, align}
use Rattle.picture_limits.specs.Shape.{shaped}
use Rattle.picture_limits.proofs.Sides.{allowed-says, sided-says}
use Rattle.picture_limits.proofs.Refusals.{passed}
use Rattle.picture_samples.specs.Samples.{channels_allowed, value, value_of, pattern_of}
use Rattle.picture_samples.proofs.Channels.{value-is}
use Rattle.picture_resize.specs.Resize.{pixel}
use Rattle.picture_restore.specs.Restore.{bytes_of}
use Rattle.picture.proofs.Places.{sample-at}
use Rattle.picture.proofs.Given.{samples}
use Rattle.picture.proofs.Accepts.{never}
use Rattle.picture_tiles.specs.Cut.{Ready, tile_side, down, across, tiles, in_cut, own_height, grid_h, grid_w}
use Rattle.picture_tiles.specs.Tile.{tile_at, tile_patches, tile_known}
use Rattle.picture_tiles.specs.Join.{row_place, own_row, put_tile, put_tiles}
use Rattle.picture_tiles.specs.Answer.{tile_floats, tile_of, tiled, untiled, bytes_out}
use Rattle.picture_tiles.specs.Undo.{Once, patches_at, Undo, restored_all, Join, Given, Eight, Forwarded}
use Rattle.picture_tiles.proofs.Pieces.{own-none}
use Rattle.picture_tiles.proofs.Cuts as C
use Rattle.picture_tiles.proofs.Joins.{tile-own}
use Rattle.picture_tiles.proofs.Backs.{length-tile-patches, tile-back, tile-seen, exact, restores, joined-restored}
use Rattle.picture_tiles.proofs.Answers.{Taken, given}

-- ---- 1
pub once : Once
once s rgb h w q r z c hr hz hc =
    let i = C.tile_of s w r z in
    let y = r % tile_side s in
    let x = z % tile_side s in
    let l = C.lies s h w r z q hr hz in
    let t = C.tiled s h w i q l.cut in
    let p = s.patch_size in
    let hp = (allowed-says s q.settings).patch-low in
    let v : ℕ → ℕ → ℕ → Float = λ y x c. value (pattern_of s) c (tile_at s rgb h w i y x c) in
    let ry : y < grid_h s h w i * p = omega (arith, l.tall, t.tall.covers, t.tall.span) in
    let rx : x < grid_w s w i * p = omega (arith, l.wide, t.wide.covers, t.wide.span) in
    record {
      tile = i;
      row = y;
      column = x;
      lies = l;
      sample = sample-at p (grid_h s h w i) (grid_w s w i) v nan y x c hp ry rx hc ∙ ap (value (pattern_of s) c) (tile-own s rgb h w i y x r z c l) ∙ value-is s.mean s.deviation c (pixel rgb w r z c);
      only = λ j a b m. (let o = C.lies-once s h w j a b r z q m in (o.tile, o.tall, o.wide));
    }

-- ---- what an acceptance says
pub accepted : (s : PictureSettings) (len h w i room : ℕ) → tiled s len h w i room ≡ tile_of s h w i → Taken s len h w i room
unfolding tiled
accepted s len h w i room e =
    let x = tile_of s h w i in
    let no : (r : Refusal) → Err r ≡ x → ⊥ = λ r. never r _ in
    let a = passed (allowed s) _ _ x (no Setting) e in
    let k = passed (channels_allowed (value_of s)) _ _ x (no Channel) a.1 in
    let b = passed (sided h w) _ _ x (no Side) k.1 in
    let c = passed (eqb len (h * w * 3)) _ _ x (no RgbLength) b.1 in
    let d = passed (leb (align s) s.image_size) _ _ x (no ImageSize) c.1 in
    let g = passed (in_cut s h w i) _ _ x (no Tile) d.1 in
    let f = passed (leb (tile_floats s h w i) room) _ _ x (no Output) g.1 in
    record {
      ready = record { settings = a.0; image = leb-true _ _ d.0 };
      channels = k.0;
      sides = b.0;
      bytes = eqb-true _ _ c.0;
      cut = ltb-true _ _ g.0;
      space = leb-true _ _ f.0;
    }

-- ---- 2
pub front : (s : PictureSettings) (rgb : List ℕ) (h w i : ℕ) (out : List Float) → tiled s (length rgb) h w i (length out) ≡ tile_of s h w i → patches_at s rgb h w i out ≡ tile_patches (pattern_of s) s rgb h w i
front s rgb h w i out e = rw e (take_at (tile_patches (pattern_of s) s rgb h w i) _ (tile_floats s h w i) (length-tile-patches (pattern_of s) s rgb h w i))

asked : (s : PictureSettings) (rgb : List ℕ) (h w i : ℕ) (out : List Float) (room : ℕ) → Taken s (length rgb) h w i (length out) → h * w * 3 ≤ room → Given s (length (tile_patches (pattern_of s) s rgb h w i)) h w i room
asked s rgb h w i out room q r = record {
  ready = q.ready;
  channels = q.channels;
  sides = q.sides;
  cut = q.cut;
  samples = length-tile-patches (pattern_of s) s rgb h w i;
  space = r;
}

pub undo : Undo
undo s rgb h w i out room old b e r =
    let q = accepted s (length rgb) h w i (length out) e in
    let f = front s rgb h w i out e in
    let l = tile_patches (pattern_of s) s rgb h w i in
    let k = tile-seen (pattern_of s) (samples s q.channels) s rgb h w i q.ready q.cut b in
    let z = given s l h w i (length old) (asked s rgb h w i out (length old) q r) true k in
    let t = tile-back (pattern_of s) (samples s q.channels) s rgb h w i q.ready q.cut b in
    record {
      patches = f;
      padded = λ m. rw f (restores s rgb h w i room q.ready q.channels q.cut b m).answer;
      bytes = rw f t;
      answer = rw f z;
      output = rw (f, z) (ap (λ (x : List ℕ). put_tile s h w i x old) t);
    }

-- ---- 3
-- a tile that is none writes nothing
outside : (s : PictureSettings) (h w i : ℕ) (b old : List ℕ) → Ready s → sided h w ≡ true → tiles s h w ≤ i → put_tile s h w i b old ≡ old
unfolding put_rows
outside s h w i b old q d m =
    let t = sided-says h w d in
    let o = C.side-some s q in
    let a : 0 < across s w = (le-div_iff_mul-le o).1 (omega (arith, t.2)) in
    let n : down s h ≤ i / across s w = (le-div_iff_mul-le a).1 m in
    ap (λ (k : ℕ). put_rows old k (row_place s w i) (own_row s w i b)) (own-none (tile_side s) h o (i / across s w) n)

-- and the call on it leaves everything
untouched : (s : PictureSettings) (l : List Float) (h w i : ℕ) (old : List ℕ) → Ready s → channels_allowed (value_of s) ≡ true → sided h w ≡ true → tiles s h w ≤ i → bytes_out s l h w i old ≡ old
unfolding untiled
untouched s l h w i old q c d m = rw (q.settings, c, d, le-leb _ _ q.image, le-ltb _ _ m) refl

module _ (s : PictureSettings) (rgb : List ℕ) (h w : ℕ) (out : ℕ → List Float) (b : Bytes rgb) (e : (i : ℕ) → i < tiles s h w → tiled s (length rgb) h w i (length (out i)) ≡ tile_of s h w i)
    (q : Ready s) (c : channels_allowed (value_of s) ≡ true) (d : sided h w ≡ true) where
  abbrev found : ℕ → List ℕ
  found i = bytes_of s (tile_patches (pattern_of s) s rgb h w i) (grid_h s h w i) (grid_w s w i)

  abbrev fronts : ℕ → List Float
  fronts i = patches_at s rgb h w i (out i)

  -- each call writes its tile
  puts : (i : ℕ) (old : List ℕ) → length old ≡ h * w * 3 → bytes_out s (fronts i) h w i old ≡ put_tile s h w i (found i) old
  puts i old m = go (dec_lt i (tiles s h w))
    where
      go : Dec (i < tiles s h w) → bytes_out s (fronts i) h w i old ≡ put_tile s h w i (found i) old
      go (yes l) =
          let t = accepted s (length rgb) h w i (length (out i)) (e i l) in
          let k = tile-seen (pattern_of s) (samples s c) s rgb h w i q l b in
          let r : h * w * 3 ≤ length old = omega (arith, m) in
          rw (front s rgb h w i (out i) (e i l), given s (tile_patches (pattern_of s) s rgb h w i) h w i (length old) (asked s rgb h w i (out i) (length old) t r) true k) refl
      go (no n) = let l : tiles s h w ≤ i = omega arith in untouched s (fronts i) h w i old q c d l ∙ sym (outside s h w i (found i) old q d l)

  -- and so the calls one after another write theirs
  puts-all : (is old : List ℕ) → length old ≡ h * w * 3 → restored_all s fronts h w is old ≡ put_tiles s h w found is old
  unfolding restored_all put_tiles
  puts-all [] old m = refl
  puts-all (i ∷ is) old m =
      let g = puts i old m in
      puts-all is (bytes_out s (fronts i) h w i old) (ap length g ∙ length-puts old (row_place s w i) (own_row s w i (found i)) (own_height s h w i) ∙ m)
      ∙ ap (put_tiles s h w found is) g

pub join : Join
join s rgb h w out is old b e some m has =
    let q = accepted s (length rgb) h w 0 (length (out 0)) (e 0 some) in
    puts-all s rgb h w out b e q.ready q.channels q.sides is old m ∙ joined-restored s rgb h w q.ready q.channels b q.bytes is old m has

-- ---- 4
pub eight : Eight
eight s l h w i room f z =
    let x = exact (pattern_of s) s l h w i z.ready z.cut z.samples f (samples s z.channels) in
    record {
      none = λ e c. x.none (go (tile_known (pattern_of s) s l h w i) refl e) c;
      refused = λ c. given s l h w i room z false (x.refused c);
    }
  where
    go : (b : Bool) → tile_known (pattern_of s) s l h w i ≡ b → untiled s l h w i room ≡ Err Sample → tile_known (pattern_of s) s l h w i ≡ false
    go true k e = absurd (never Sample _ (sym e ∙ given s l h w i room z true k))
    go false k e = k

-- ---- 5
pub forwarded : Forwarded
unfolding shaped
forwarded s len h w i room e =
    let q = accepted s len h w i room e in
    let t = C.tiled s h w i q.ready q.cut in
    let n = tile_floats s h w i in
    rw (q.ready.settings, t.tall.grid, t.wide.grid, eq-eqb n n refl) refl

-- ---- the answers see no pixel
pub unseen : (s : PictureSettings) (rgb rgb' : List ℕ) (h w i room : ℕ) → length rgb ≡ length rgb' → tiled s (length rgb) h w i room ≡ tiled s (length rgb') h w i room
unseen s rgb rgb' h w i room e = ap (λ (n : ℕ). tiled s n h w i room) e
