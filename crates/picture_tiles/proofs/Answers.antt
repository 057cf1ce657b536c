-- What the calls on a tile answer and leave where they are accepted, from what their leaves write. Assumes nothing.
use Rattle.std.specs.Prelude.{Result, Ok, Err}
use mathlib.Core.Path.{◌≡◌, refl, sym, ap, ◌∙◌}
use mathlib.Core.Bool.{Bool, true, false, ◌||◌, cond}
use mathlib.Core.List.{List}
use Prim.Native.Nat.{ℕ, ◌+◌, ◌*◌, ◌/◌, ◌%◌, ◌≤◌, ◌<◌}
use native.Mathlib.Nat.{mul_assoc, mul-div_cancel}
use native.Mathlib.Omega.{arith}
use borrow.Author.Tests.{le-leb, eq-eqb, lt-ltb}
use lib.Dec.{eqb}
use lib.ListN.{length, get_or}
use lib.Seq.{ext_get_or}
use lib.Ieee.{Float, nan, binary32, of_bits, to_bits}
use Rattle.buffers.specs.Rows.{tab, rows, all}
use Rattle.buffers.specs.Region.{region, over, put_rows}
use Rattle.buffers.specs.Lent.{Bytes}
use Rattle.buffers.proofs.Lists.{fit, length-tab, length-rows, get_or-tab, get_d_rows, rows_ext, tab-ext, all-ext}
use Rattle.buffers.proofs.Regions.{length-region, get_or-region}
use Rattle.buffers.proofs.Puts.{puts-ext}
use Rattle.picture_limits.specs.declared.PictureSettings.{PictureSettings}
use Rattle.picture_limits.specs.declared.Refusal.TheVariants.{Sample}
use Rattle.picture_limits.specs.declared.View.{View}
use Rattle.picture_limits.specs.View.{has}
use Rattle.picture_limits.specs.Settings.{sided}
use Rattle.picture_limits.specs.Places.{picture, sample_place}
use Rattle.picture_limits.proofs.Places.{length-picture, picture-at}
use Rattle.picture_limits.proofs.Sides.{allowed-says}
use Rattle.picture_limits.proofs.Views.{inside-where}
use Rattle.picture_samples.specs.Samples.{channels_allowed, value, entry, sample_table, value_of, pattern_of}
use Rattle.picture_samples.proofs.Channels.{entry-of, allowed_of}
use Rattle.picture_samples.proofs.Finds.{byte-same}
use Rattle.picture_patches.specs.Patches.{patches}
use Rattle.picture_patches.specs.Resized.{fits}
use Rattle.picture_patches.specs.Viewed.{view_over}
use Rattle.picture_patches.proofs.Patches.{patches-ext}
use Rattle.picture_patches.proofs.Fits.{fits-where, view-written}
use Rattle.picture_view.specs.Known.{known}
use Rattle.picture_restore.specs.Restore.{bytes_of}
use Rattle.picture_view.specs.View.{view_row, view_place, view_fits, view_back, view_out}
use Rattle.picture_view.proofs.Known.{known_same}
use Rattle.picture_tiles.specs.Cut.{Ready, tiles, own_height, own_width, tile_height, tile_width, grid_h, grid_w}
use Rattle.picture_tiles.specs.Tile.{tile_view, tile_at, found, padded, tile_known}
use Rattle.picture_tiles.specs.Join.{row_place, own_row, put_tile}
use Rattle.picture_tiles.specs.inner.Padding.{zero_rows}
use Rattle.picture_tiles.specs.Answer.{tile_floats, tile_of, tiled, patches_out, untiled, bytes_out}
use Rattle.picture_tiles.specs.Undo.{Given}
use Rattle.picture_tiles.proofs.Cuts as C
use Rattle.picture_tiles.proofs.Bounds.{inside_of}
use Rattle.picture_tiles.proofs.Backs.{tile-below}

-- ---- a tile's preprocess: where no number applies
pub record Taken (s : PictureSettings) (len h w i room : ℕ) : Type 0 where
  pub ready : Ready s
  pub channels : channels_allowed (value_of s) ≡ true
  pub sides : sided h w ≡ true
  pub bytes : len ≡ h * w * 3
  pub cut : i < tiles s h w
  pub space : tile_floats s h w i ≤ room

pub taken : (s : PictureSettings) (len h w i room : ℕ) → Taken s len h w i room → tiled s len h w i room ≡ tile_of s h w i
unfolding tiled
taken s len h w i room q =
    rw (q.ready.settings, q.channels, q.sides, eq-eqb _ _ q.bytes, le-leb _ _ q.ready.image, lt-ltb _ _ q.cut, le-leb _ _ q.space) refl

module _ (s : PictureSettings) (t : List ℕ) (e : t ≡ sample_table s.mean s.deviation) where
  -- the table's patterns are the settings'
  pub same : (c b : ℕ) → c < 3 → b < 256 → entry t c b ≡ pattern_of s c b
  same c b hc hb = entry-of s.mean s.deviation t e c b hc hb

  pub tile-wrote : (rgb : List ℕ) (h w i : ℕ) (old out : List Float) (v : View) (gh gw : ℕ) → Taken s (length rgb) h w i (length old) → Bytes rgb
      → v ≡ tile_view s h w i → gh ≡ grid_h s h w i → gw ≡ grid_w s w i
      → out ≡ view_over (entry t) rgb h w v (gh * s.patch_size) (gw * s.patch_size) s.patch_size old
      → out ≡ patches_out s rgb h w i old
  tile-wrote rgb h w i old out v gh gw q b ev eh ew eo =
      let p = s.patch_size in
      let k = entry t in
      let u = tile_view s h w i in
      let a = grid_h s h w i in
      let c = grid_w s w i in
      let o = allowed-says s q.ready.settings in
      let z = inside_of s h w i q.ready q.cut in
      let x : a * p / p ≡ a = mul-div_cancel a o.patch-low in
      let y : c * p / p ≡ c = mul-div_cancel c o.patch-low in
      let f : fits (length rgb) h w (a * p) (c * p) p (length old) ≡ true = fits-where _ _ _ _ _ _ _ (record {
        sides = q.sides;
        tall = z.span-tall;
        wide = z.span-wide;
        patch-low = o.patch-low;
        patch-high = o.patch-high;
        bytes = q.bytes;
        space = rw (x, y) q.space;
      }) in
      let g : out ≡ view_over k rgb h w u (a * p) (c * p) p old =
      eo
      ∙ ap (λ (n : View). view_over k rgb h w n (gh * p) (gw * p) p old) ev
      ∙ ap (λ (n : ℕ). view_over k rgb h w u (n * p) (gw * p) p old) eh
      ∙ ap (λ (n : ℕ). view_over k rgb h w u (a * p) (n * p) p old) ew in
      g
      ∙ view-written k rgb h w u (a * p) (c * p) p old (allowed_of s.mean s.deviation t e ∙ q.channels) f (inside-where u h w z.ends z.stops)
      ∙ ap (λ (n : ℕ). over (patches p n (c * p / p) (λ y x c. value k c (tile_at s rgb h w i y x c))) old) x
      ∙ ap (λ (n : ℕ). over (patches p a n (λ y x c. value k c (tile_at s rgb h w i y x c))) old) y
      ∙ ap (λ (l : List Float). over l old) (patches-ext p a c _ _ (λ y x c _ _ hc. ap (of_bits binary32) (same c (tile_at s rgb h w i y x c) hc (tile-below s rgb h w i b y x c))))
      ∙ rw (taken s (length rgb) h w i (length old) q) refl

-- ---- a tile's restore: where no number but 8 applies
pub given : (s : PictureSettings) (l : List Float) (h w i room : ℕ) → Given s (length l) h w i room
    → (b : Bool) → tile_known (pattern_of s) s l h w i ≡ b → untiled s l h w i room ≡ cond b (tile_of s h w i) (Err Sample)
unfolding untiled
given s l h w i room q true e =
    rw (q.ready.settings, q.channels, q.sides, le-leb _ _ q.ready.image, lt-ltb _ _ q.cut, eq-eqb _ _ q.samples, le-leb _ _ q.space, e) refl
given s l h w i room q false e =
    rw (q.ready.settings, q.channels, q.sides, le-leb _ _ q.ready.image, lt-ltb _ _ q.cut, eq-eqb _ _ q.samples, le-leb _ _ q.space, e) refl

-- the first columns of a row of a picture
pub picture-row : (h w : ℕ) (f : ℕ → ℕ → ℕ → ℕ) (y n : ℕ) → y < h → n ≤ w → region (picture h w f) (y * (w * 3)) (n * 3) ≡ rows n (λ x. tab 3 (λ c. f y x c))
picture-row h w f y n hy hn =
    let r : List ℕ = region (picture h w f) (y * (w * 3)) (n * 3) in
    let a : length r ≡ n * 3 = length-region (picture h w f) (y * (w * 3)) (n * 3) (omega (arith, length-picture h w f, fit (w * 3) hy)) in
    let b : length (rows n (λ x. tab 3 (λ c. f y x c))) ≡ n * 3 = length-rows _ 3 (λ x. length-tab 3 _) n in
    ext_get_or 0 r _ (a ∙ sym b) (λ k hk. at k (omega (arith, hk, a)))
  where
    at : (k : ℕ) → k < n * 3 → get_or (region (picture h w f) (y * (w * 3)) (n * 3)) k 0 ≡ get_or (rows n (λ x. tab 3 (λ c. f y x c))) k 0
    at k hk =
        let x = k / 3 in
        let c = k % 3 in
        let hx : x < n = omega arith in
        let hw : x < w = omega arith in
        let hc : c < 3 = omega arith in
        let e : x * 3 + c ≡ k = omega arith in
        let i : y * (w * 3) + k ≡ (y * w + x) * 3 + c = omega (arith, mul_assoc y w 3) in
        get_or-region (picture h w f) (y * (w * 3)) (n * 3) k 0 hk
        ∙ ap (λ (j : ℕ). get_or (picture h w f) j 0) i
        ∙ picture-at h w f 0 y x c hy hw hc
        ∙ sym (get_or-tab 3 c (λ c. f y x c) 0 hc)
        ∙ sym (get_d_rows (λ x. tab 3 (λ c. f y x c)) 3 (λ x. length-tab 3 _) n x c 0 hx hc)
        ∙ ap (λ (j : ℕ). get_or (rows n (λ x. tab 3 (λ c. f y x c))) j 0) e

module _ (s : PictureSettings) (t : List ℕ) (e : t ≡ sample_table s.mean s.deviation) (l : List Float) (h w i room : ℕ) (q : Given s (length l) h w i room) where
  abbrev p : ℕ
  p = s.patch_size

  abbrev gh : ℕ
  gh = grid_h s h w i

  abbrev gw : ℕ
  gw = grid_w s w i

  abbrev u : View
  u = tile_view s h w i

  -- what the loops over the padding find is what the definition asks
  pub padded-is : zero_rows (entry t) p gh gw l u ≡ padded (pattern_of s) s l h w i
  unfolding zero_rows padded
  padded-is =
      let z = C.tiled s h w i q.ready q.cut in
      ap (λ (n : ℕ). all n (λ y. all (gw * p) (λ x. has u y x || all 3 (λ c. eqb (found (entry t) p gw l y x c) 0)))) z.tall.span
      ∙ all-ext (tile_height s h w i) _ _ (λ y _.
      ap (λ (n : ℕ). all n (λ x. has u y x || all 3 (λ c. eqb (found (entry t) p gw l y x c) 0))) z.wide.span
      ∙ all-ext (tile_width s w i) _ _ (λ x _.
      ap (λ (b : Bool). has u y x || b) (all-ext 3 _ _ (λ c hc. ap (λ (n : ℕ). eqb n 0) (byte-same (entry t) (pattern_of s) (same s t e) c (to_bits binary32 (get_or l (sample_place p gw y x c) nan)) hc)))))

  -- the view is written exactly where every sample is known
  pub back_is : view_back (entry t) p gh gw l u h w room ≡ known (pattern_of s) p l
  unfolding view_back view_fits
  back_is =
      let z = inside_of s h w i q.ready q.cut in
      let o = allowed-says s q.ready.settings in
      rw (allowed_of s.mean s.deviation t e ∙ q.channels, q.sides, le-leb _ _ o.patch-low, le-leb _ _ o.patch-high, le-leb _ _ z.grid-tall, le-leb _ _ z.grid-wide, inside-where u h w z.ends z.stops, eq-eqb _ _ q.samples, le-leb _ _ z.rows, le-leb _ _ z.columns, le-leb _ _ q.space)
      (known_same (entry t) (pattern_of s) (same s t e) p l)

  -- and what is written are the tile's own bytes
  pub rows_are : (old : List ℕ) → put_rows old u.height (view_place w u) (view_row (entry t) p gw l u) ≡ put_tile s h w i (bytes_of s l gh gw) old
  rows_are old =
      let z = inside_of s h w i q.ready q.cut in
      let d = C.tiled s h w i q.ready q.cut in
      puts-ext old (view_place w u) (row_place s w i) (view_row (entry t) p gw l u) (own_row s w i (bytes_of s l gh gw)) (own_height s h w i) (λ y _. refl)
      (λ y hy.
      let r : y < gh * p = omega (arith, hy, z.rows) in
      rows_ext (own_width s w i) _ _ (λ x _. tab-ext 3 _ _ (λ c hc. byte-same (entry t) (pattern_of s) (same s t e) c (to_bits binary32 (get_or l (sample_place p gw y x c) nan)) hc))
      ∙ sym (picture-row (gh * p) (gw * p) (λ y x c. found (pattern_of s) p gw l y x c) y (own_width s w i) r z.columns)
      ∙ ap (λ (n : ℕ). region (bytes_of s l gh gw) (y * (n * 3)) (own_width s w i * 3)) d.wide.span)

  -- so the call leaves what the definition says
  pub restored-out : (old : List ℕ) (b : Bool) → length old ≡ room → tile_known (pattern_of s) s l h w i ≡ b → known (pattern_of s) p l ≡ b → view_out (entry t) p gh gw l u h w old ≡ bytes_out s l h w i old
  restored-out old true m k e =
      let a : view_back (entry t) p gh gw l u h w (length old) ≡ true = ap (view_back (entry t) p gh gw l u h w) m ∙ back_is ∙ e in
      let g : untiled s l h w i (length old) ≡ tile_of s h w i = ap (untiled s l h w i) m ∙ given s l h w i room q true k in
      rw (a, g) (rows_are old)
  restored-out old false m k e =
      let a : view_back (entry t) p gh gw l u h w (length old) ≡ false = ap (view_back (entry t) p gh gw l u h w) m ∙ back_is ∙ e in
      let g : untiled s l h w i (length old) ≡ Err Sample = ap (untiled s l h w i) m ∙ given s l h w i room q false k in
      rw (a, g) refl
