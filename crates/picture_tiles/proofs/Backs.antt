-- The undo of a tile: restore gives back the padded tile, and joining the restored tiles the sweep; and which patches are
-- those of a tile. Patches and bytes are first taken over any table of patterns that is distinct in each channel. Assumes nothing.
use Rattle.std.specs.Prelude.{Result, Ok, Err}
use mathlib.Core.Path.{◌≡◌, refl, sym, ap, ◌∙◌, subst}
use mathlib.Core.Bool.{Bool, true, false, ◌||◌, cond, true≢false}
use mathlib.Core.List.{List}
use Prim.Native.Nat.{ℕ, zero, ◌+◌, ◌*◌, ◌-◌, ◌/◌, ◌%◌, ◌≤◌, ◌<◌}
use native.Mathlib.Nat.{mul_assoc, add_assoc, add-sub_cancel_left, div-lt_iff_lt-mul, div-add-mod', mod-lt}
use native.Mathlib.Omega.{arith}
use borrow.Author.Tests.{eq-eqb, lt-ltb, eqb-true}
use lib.Dec.{T, eqb}
use lib.ListN.{length, get_or}
use lib.Ieee.{Float, nan, binary32, fits, to_bits, of_bits}
use lib.Ieee.Bits.{of_bits-to_bits}
use Rattle.buffers.specs.Rows.{rows, all}
use Rattle.buffers.proofs.Lists.{fit, and_both, and_left, and_right, all_of, all-at, rows_ext, tab-ext}
use Rattle.picture_limits.specs.declared.PictureSettings.{PictureSettings}
use Rattle.picture_limits.specs.Shape.{grid_allowed}
use Rattle.picture_limits.specs.Places.{patch_floats, picture, sample_place}
use Rattle.picture_limits.proofs.Places.{patch-in, place-in-patch, place-of, picture-at, length-picture}
use Rattle.picture_limits.proofs.Sides.{allowed-says}
use Rattle.picture_samples.specs.Samples.{channels_allowed, value, byte_of, value_of, pattern_of}
use Rattle.picture_samples.proofs.Channels.{value-is}
use Rattle.picture_samples.proofs.Finds.{byte-back, pattern-back}
use Rattle.picture_resize.specs.Resize.{pixel}
use Rattle.buffers.specs.Lent.{Bytes}
use Rattle.buffers.proofs.Bytes.{bytes-tab, bytes-rows}
use Rattle.picture_patches.specs.Patches.{patches}
use Rattle.picture_patches.specs.Viewed.{view_at}
use Rattle.picture_patches.proofs.Views.{has-says}
use Rattle.picture_patches.proofs.Patches.{length-patches, patches-ext}
use Rattle.picture_view.specs.Known.{known, bytes_from}
use Rattle.picture_restore.specs.Restore.{restored, bytes_of}
use Rattle.picture_view.specs.inner.Known.{known_patches}
use Rattle.picture_view.proofs.Known.{known_at, known-cut}
use Rattle.picture.proofs.Places.{sample-at, patches-self}
use Rattle.picture.specs.Undo.{pictured, Asked}
use Rattle.picture.proofs.Given.{Table, samples, bytes-of}
use Rattle.picture.proofs.Undo.{decides}
use Rattle.picture_tiles.specs.Cut.{Ready, tiles, top, left, tile_height, tile_width, grid_h, grid_w}
use Rattle.picture_tiles.specs.Tile.{tile_view, owns, tile_at, tile_bytes, tile_patches, found_at, padded, tile_known}
use Rattle.picture_tiles.specs.Join.{put_tiles, Has}
use Rattle.picture_tiles.specs.Undo.{Source}
use Rattle.picture_tiles.proofs.Cuts.{factor, tiled}
use Rattle.picture_tiles.proofs.Joins.{joined}

-- ---- the bytes of a tile are bytes, and 0 where they are not the sweep's
pub tile-below : (s : PictureSettings) (rgb : List ℕ) (h w i : ℕ) → Bytes rgb → (y x c : ℕ) → tile_at s rgb h w i y x c < 256
unfolding view_at
tile-below s rgb h w i b y x c = go (owns s h w i y x)
  where
    go : (t : Bool) → cond t (pixel rgb w (top s w i + y) (left s w i + x) c) 0 < 256
    go true = b _
    go false = omega arith

pub tile-zero : (s : PictureSettings) (rgb : List ℕ) (h w i y x c : ℕ) → owns s h w i y x ≡ false → tile_at s rgb h w i y x c ≡ 0
unfolding view_at
tile-zero s rgb h w i y x c e = rw e

or_right : (a b : Bool) → (a ≡ false → b ≡ true) → a || b ≡ true
or_right true b f = refl
or_right false b f = f refl

or_left : (a b : Bool) → a || b ≡ true → a ≡ false → b ≡ true
or_left true b e f = absurd (true≢false f)
or_left false b e f = e

-- ---- what the test asks, sample by sample
module _ (k : ℕ → ℕ → ℕ) (s : PictureSettings) (l : List Float) (h w i : ℕ) where
  -- each sample has a byte, and each padding sample has byte 0
  pub record Known : Type 0 where
    pub byte : (y x c : ℕ) → y < tile_height s h w i → x < tile_width s w i → c < 3 → found_at k s l w i y x c < 256
    pub zero : (y x c : ℕ) → y < tile_height s h w i → x < tile_width s w i → c < 3 → owns s h w i y x ≡ false → found_at k s l w i y x c ≡ 0

  module _ (q : Ready s) (inside : i < tiles s h w) (long : length l ≡ grid_h s h w i * grid_w s w i * patch_floats s.patch_size) where
    pub known-says : tile_known k s l h w i ≡ true → Known
    unfolding padded
    known-says e =
        let p = s.patch_size in
        let t = tiled s h w i q inside in
        let o = (allowed-says s q.settings).patch-low in
        let a = and_left (known k p l) (padded k s l h w i) e in
        let b = and_right (known k p l) (padded k s l h w i) e in
        record {
          byte = λ y x c hy hx hc. known_at k p (grid_h s h w i * grid_w s w i) l long a (y / p * grid_w s w i + x / p) c (y % p * p + x % p) (patch-in p (grid_h s h w i) (grid_w s w i) y x o (rw t.tall.span hy) (rw t.wide.span hx)) hc (place-in-patch p y x o);
          zero = λ y x c hy hx hc f.
              eqb-true (found_at k s l w i y x c) 0
              (all-at 3 (λ c. eqb (found_at k s l w i y x c) 0)
              (or_left (owns s h w i y x) (all 3 (λ c. eqb (found_at k s l w i y x c) 0))
              (all-at (tile_width s w i) _ (all-at (tile_height s h w i) _ b y hy) x hx) f) c hc);
        }

    pub known-of-all : Known → tile_known k s l h w i ≡ true
    unfolding known_patches padded
    known-of-all o =
        let p = s.patch_size in
        let gh = grid_h s h w i in
        let gw = grid_w s w i in
        let t = tiled s h w i q inside in
        let hp = (allowed-says s q.settings).patch-low in
        and_both (known k p l) (padded k s l h w i)
        (known-cut k p (gh * gw) l long ∙ all_of (gh * gw) _ (λ g hg. all_of 3 _ (λ c hc. all_of (p * p) _ (λ j hj.
        let v : 0 < gw = factor g gh gw hg in
        let a : g / gw < gh = (div-lt_iff_lt-mul v).1 hg in
        let b : g % gw < gw = mod-lt g v in
        let d : j / p < p = (div-lt_iff_lt-mul hp).1 hj in
        let f : j % p < p = mod-lt j hp in
        let y = g / gw * p + j / p in
        let x = g % gw * p + j % p in
        let e : sample_place p gw y x c ≡ g * patch_floats p + c * (p * p) + j =
        place-of p hp gw (g / gw) (g % gw) c (j / p) (j % p) d f ∙ rw (div-add-mod' g gw, div-add-mod' j p) (sym (add_assoc (g * patch_floats p) (c * (p * p)) j)) in
        let hy : y < tile_height s h w i = omega (arith, fit p a, d, t.tall.span) in
        let hx : x < tile_width s w i = omega (arith, fit p b, f, t.wide.span) in
        lt-ltb _ 256 (subst (λ (n : ℕ). byte_of k c (to_bits binary32 (get_or l n nan)) < 256) e (o.byte y x c hy hx hc))))))
        (all_of (tile_height s h w i) _ (λ y hy. all_of (tile_width s w i) _ (λ x hx.
        or_right (owns s h w i y x) (all 3 (λ c. eqb (found_at k s l w i y x c) 0)) (λ f. all_of 3 _ (λ c hc. eq-eqb (found_at k s l w i y x c) 0 (o.zero y x c hy hx hc f))))))

pub length-tile-patches : (k : ℕ → ℕ → ℕ) (s : PictureSettings) (rgb : List ℕ) (h w i : ℕ) → length (tile_patches k s rgb h w i) ≡ grid_h s h w i * grid_w s w i * patch_floats s.patch_size
length-tile-patches k s rgb h w i =
    length-patches s.patch_size (λ y x c. value k c (tile_at s rgb h w i y x c)) (grid_h s h w i) (grid_w s w i)
    ∙ sym (mul_assoc (grid_h s h w i) (grid_w s w i) (patch_floats s.patch_size))

-- ---- the patches of the sweep's own tile, over a table whose patterns are distinct and floats' own
module _ (k : ℕ → ℕ → ℕ) (K : Table k) (s : PictureSettings) (rgb : List ℕ) (h w i : ℕ) (q : Ready s) (inside : i < tiles s h w) (b : Bytes rgb) where
  -- the byte found from each sample is the tile's
  pub found-tile : (y x c : ℕ) → y < tile_height s h w i → x < tile_width s w i → c < 3 → found_at k s (tile_patches k s rgb h w i) w i y x c ≡ tile_at s rgb h w i y x c
  found-tile y x c hy hx hc =
      let p = s.patch_size in
      let t = tiled s h w i q inside in
      let hp = (allowed-says s q.settings).patch-low in
      let e = sample-at p (grid_h s h w i) (grid_w s w i) (λ y x c. value k c (tile_at s rgb h w i y x c)) nan y x c hp (rw t.tall.span hy) (rw t.wide.span hx) hc in
      ap (λ (n : ℕ). byte_of k c n) (ap (to_bits binary32) e ∙ K.own c (tile_at s rgb h w i y x c)) ∙ byte-back k c (tile_at s rgb h w i y x c) (K.apart c hc) (tile-below s rgb h w i b y x c)

  -- so these are the padded tile
  pub tile-back : bytes_from k s.patch_size (tile_patches k s rgb h w i) (grid_h s h w i) (grid_w s w i) ≡ tile_bytes s rgb h w i
  tile-back =
      let t = tiled s h w i q inside in
      let hp = (allowed-says s q.settings).patch-low in
      bytes-of k K s.patch_size (grid_h s h w i) (grid_w s w i) (tile_at s rgb h w i) (tile-below s rgb h w i b) hp ∙ rw (t.tall.span, t.wide.span)

  pub tile-seen : tile_known k s (tile_patches k s rgb h w i) h w i ≡ true
  tile-seen = known-of-all k s (tile_patches k s rgb h w i) h w i q inside (length-tile-patches k s rgb h w i) (record {
    byte = λ y x c hy hx hc. rw (found-tile y x c hy hx hc) (tile-below s rgb h w i b y x c);
    zero = λ y x c hy hx hc f. found-tile y x c hy hx hc ∙ tile-zero s rgb h w i y x c f;
  })

-- ---- which patches are those of tile i of a sweep of h rows and w columns
module _ (k : ℕ → ℕ → ℕ) (s : PictureSettings) (l : List Float) (h w i : ℕ) (q : Ready s) (inside : i < tiles s h w)
    (long : length l ≡ grid_h s h w i * grid_w s w i * patch_floats s.patch_size) (f : (n : ℕ) → T (fits binary32 (get_or l n nan))) where
  -- a sweep that has the found bytes in its tile
  abbrev made : ℕ → ℕ → ℕ → ℕ
  made r z c = cond (owns s h w i (r - top s w i) (z - left s w i)) (found_at k s l w i (r - top s w i) (z - left s w i) c) 0

  made-below : Known k s l h w i → (r z c : ℕ) → c < 3 → made r z c < 256
  made-below o r z c hc = go (r - top s w i) (z - left s w i) (owns s h w i (r - top s w i) (z - left s w i)) refl
    where
      go : (y x : ℕ) (t : Bool) → owns s h w i y x ≡ t → cond t (found_at k s l w i y x c) 0 < 256
      go y x true e =
          let u = has-says (tile_view s h w i) y x e in
          let t = tiled s h w i q inside in
          let a = t.tall.covers in
          let b = t.wide.covers in
          o.byte y x c (omega (arith, u.0, a)) (omega (arith, u.1, b)) hc
      go y x false e = omega arith

  made-tile : Known k s l h w i → (y x c : ℕ) → y < tile_height s h w i → x < tile_width s w i → c < 3 → tile_at s (picture h w made) h w i y x c ≡ found_at k s l w i y x c
  unfolding view_at
  made-tile o y x c hy hx hc = go (owns s h w i y x) refl
    where
      go : (t : Bool) → owns s h w i y x ≡ t → cond t (pixel (picture h w made) w (top s w i + y) (left s w i + x) c) 0 ≡ found_at k s l w i y x c
      go true e =
          let u = has-says (tile_view s h w i) y x e in
          let t = tiled s h w i q inside in
          let a = t.tall.ends in
          let b = t.wide.ends in
          picture-at h w made 0 (top s w i + y) (left s w i + x) c (omega (arith, u.0, a)) (omega (arith, u.1, b)) hc
          ∙ rw (add-sub_cancel_left (top s w i) y, add-sub_cancel_left (left s w i) x, e)
      go false e = sym (o.zero y x c hy hx hc e)

  found-value : (y x c : ℕ) → found_at k s l w i y x c < 256 → value k c (found_at k s l w i y x c) ≡ get_or l (sample_place s.patch_size (grid_w s w i) y x c) nan
  found-value y x c h =
      let v = get_or l (sample_place s.patch_size (grid_w s w i) y x c) nan in
      ap (of_bits binary32) (pattern-back k c (to_bits binary32 v) h) ∙ of_bits-to_bits binary32 v (f _)

  pub tile-source : tile_known k s l h w i ≡ true → Source k s l h w i
  tile-source e =
      let p = s.patch_size in
      let gh = grid_h s h w i in
      let gw = grid_w s w i in
      let o = known-says k s l h w i q inside long e in
      let t = tiled s h w i q inside in
      let hp = (allowed-says s q.settings).patch-low in
      record {
        rgb = picture h w made;
        bytes = bytes-rows h _ (λ r hr. bytes-rows w _ (λ z hz. bytes-tab 3 _ (λ c hc. made-below o r z c hc)));
        long = length-picture h w made ∙ sym (mul_assoc h w 3);
        given =
            rows_ext gh _ _ (λ a ha. rows_ext gw _ _ (λ b hb. rows_ext 3 _ _ (λ c hc. rows_ext p _ _ (λ u hu. tab-ext p _ _ (λ v hv.
            let y = a * p + u in
            let x = b * p + v in
            let hy : y < tile_height s h w i = omega (arith, fit p ha, t.tall.span) in
            let hx : x < tile_width s w i = omega (arith, fit p hb, t.wide.span) in
            ap (λ (n : ℕ). value k c n) (made-tile o y x c hy hx hc) ∙ found-value y x c (o.byte y x c hy hx hc))))))
            ∙ patches-self p gh gw l hp long;
      }

  -- no sweep gives these patches at this index exactly when a sample has no byte, or a padding sample is not byte 0's
  pub record Exact : Type 0 where
    pub none : tile_known k s l h w i ≡ false → Source k s l h w i → ⊥
    pub refused : (Source k s l h w i → ⊥) → tile_known k s l h w i ≡ false

  pub exact : Table k → Exact
  exact K = record {
    none = λ e c. true≢false (sym (tile-seen k K s c.rgb h w i q inside c.bytes) ∙ ap (λ (x : List Float). tile_known k s x h w i) c.given ∙ e);
    refused = λ c. go (tile_known k s l h w i) refl c;
  }
    where
      go : (b : Bool) → tile_known k s l h w i ≡ b → (Source k s l h w i → ⊥) → b ≡ false
      go true e c = absurd (c (tile-source e))
      go false e c = refl

-- ---- joining what is found from the patches of each tile gives the sweep, over any such table
pub joined_back : (k : ℕ → ℕ → ℕ) → Table k → (s : PictureSettings) (rgb : List ℕ) (h w : ℕ) → Ready s → Bytes rgb → length rgb ≡ h * w * 3
    → (is old : List ℕ) → length old ≡ h * w * 3 → ((i : ℕ) → i < tiles s h w → Has i is)
    → put_tiles s h w (λ i. bytes_from k s.patch_size (tile_patches k s rgb h w i) (grid_h s h w i) (grid_w s w i)) is old ≡ rgb
joined_back k K s rgb h w q b n is old m has =
    joined s rgb h w q (λ i. bytes_from k s.patch_size (tile_patches k s rgb h w i) (grid_h s h w i) (grid_w s w i)) (λ i l. tile-back k K s rgb h w i q l b) n is old m has

-- ---- restore of a tile, by the table of the settings
-- its patches are those of the samples
pub tile-samples : (s : PictureSettings) (rgb : List ℕ) (h w i : ℕ)
    → tile_patches (pattern_of s) s rgb h w i ≡ patches s.patch_size (grid_h s h w i) (grid_w s w i) (λ y x c. value_of s c (tile_at s rgb h w i y x c))
tile-samples s rgb h w i = patches-ext s.patch_size (grid_h s h w i) (grid_w s w i) _ _ (λ y x c _ _ hc. value-is s.mean s.deviation c (tile_at s rgb h w i y x c))

pub record Restores (s : PictureSettings) (rgb : List ℕ) (h w i room : ℕ) : Type 0 where
  pub answer : restored s (tile_patches (pattern_of s) s rgb h w i) (grid_h s h w i) (grid_w s w i) room ≡ Ok (pictured (tile_height s h w i) (tile_width s w i))
  pub bytes : bytes_of s (tile_patches (pattern_of s) s rgb h w i) (grid_h s h w i) (grid_w s w i) ≡ tile_bytes s rgb h w i

pub restores : (s : PictureSettings) (rgb : List ℕ) (h w i room : ℕ) → Ready s → channels_allowed (value_of s) ≡ true → i < tiles s h w → Bytes rgb → tile_height s h w i * tile_width s w i * 3 ≤ room → Restores s rgb h w i room
restores s rgb h w i room q d inside b r =
    let p = s.patch_size in
    let gh = grid_h s h w i in
    let gw = grid_w s w i in
    let k = pattern_of s in
    let l = tile_patches (pattern_of s) s rgb h w i in
    let t = tiled s h w i q inside in
    let z : Asked s l gh gw room = record {
      settings = q.settings;
      channels = d;
      grid = and_both (grid_allowed s gh) (grid_allowed s gw) t.tall.grid t.wide.grid;
      samples = length-tile-patches (pattern_of s) s rgb h w i;
      fits = rw (t.tall.span, t.wide.span) r;
    } in
    let e = and_left (known (pattern_of s) p l) (padded (pattern_of s) s l h w i) (tile-seen (pattern_of s) (samples s d) s rgb h w i q inside b) in
    record {
      answer = decides s l gh gw room z ∙ rw (e, t.tall.span, t.wide.span);
      bytes = tile-back (pattern_of s) (samples s d) s rgb h w i q inside b;
    }

-- joining the restored tiles gives back the sweep's own bytes
pub joined-restored : (s : PictureSettings) (rgb : List ℕ) (h w : ℕ) → Ready s → channels_allowed (value_of s) ≡ true → Bytes rgb → length rgb ≡ h * w * 3
    → (is old : List ℕ) → length old ≡ h * w * 3 → ((i : ℕ) → i < tiles s h w → Has i is)
    → put_tiles s h w (λ i. bytes_of s (tile_patches (pattern_of s) s rgb h w i) (grid_h s h w i) (grid_w s w i)) is old ≡ rgb
joined-restored s rgb h w q d b n is old m has = joined_back (pattern_of s) (samples s d) s rgb h w q b n is old m has
