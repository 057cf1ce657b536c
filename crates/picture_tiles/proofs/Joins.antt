-- Joining: what one tile writes, and that the sweep's own tiles, joined in any order and however often, give the sweep.
-- Assumes nothing.
use mathlib.Core.Path.{◌≡◌, refl, sym, ap, ◌∙◌, subst}
use mathlib.Core.Bool.{Bool, true, false}
use mathlib.Core.List.{List, [], ◌∷◌}
use Prim.Native.Nat.{ℕ, ◌+◌, ◌*◌, ◌-◌, ◌/◌, ◌%◌, ◌≤◌, ◌<◌}
use native.Mathlib.Nat.{mul_assoc, div-add-mod', mod-lt, div-lt_iff_lt-mul, le-div_iff_mul-le}
use native.Mathlib.Omega.{arith}
use native.Mathlib.Decide.{dec_lt}
use borrow.Author.Tests.{eqb-true, eqb-false, lt-ltb}
use lib.Dec.{eqb}
use lib.ListN.{length, get_or}
use lib.Seq.{ext_get_or}
use Rattle.buffers.specs.inner.Apart.{Apart, before, after}
use Rattle.buffers.proofs.Regions.{length-region, get_or-region}
use Rattle.buffers.proofs.Lists.{fit}
use Rattle.buffers.proofs.Puts.{length-puts, puts-keep, puts-at}
use Rattle.picture_limits.specs.declared.PictureSettings.{PictureSettings}
use Rattle.picture_limits.proofs.Places.{length-picture, picture-at}
use Rattle.picture_tiles.specs.Cut.{Ready, tile_side, across, tiles, top, left, own_height, own_width, tile_height, tile_width}
use Rattle.picture_resize.specs.Resize.{pixel}
use Rattle.picture_patches.specs.Viewed.{view_at}
use Rattle.picture_tiles.specs.Tile.{tile_at, tile_bytes}
use Rattle.picture_tiles.specs.Join.{row_place, own_row, put_tile, put_tiles, Has, here, there}
use Rattle.picture_tiles.proofs.Pieces.{is-piece, own-none}
use Rattle.picture_tiles.specs.Undo.{Lies}
use Rattle.picture_tiles.proofs.Cuts.{factor, side-some, tiled, tile_of, lies, lies-once}

-- ---- one tile, whose bytes are b, written over old
module _ (s : PictureSettings) (h w i : ℕ) (b old : List ℕ) (q : Ready s) (m : length old ≡ h * w * 3) where
  -- a row of it is as long as it is wide
  row-long : i < tiles s h w → length b ≡ tile_height s h w i * (tile_width s w i * 3) → (y : ℕ) → y < own_height s h w i → length (own_row s w i b y) ≡ own_width s w i * 3
  row-long l e y hy =
      let t = tiled s h w i q l in
      let n = tile_width s w i * 3 in
      let u = t.tall.covers in
      let v = t.wide.covers in
      let z : y < tile_height s h w i = omega (arith, hy, u) in
      length-region b (y * n) (own_width s w i * 3) (omega (arith, fit n z, v, e))

  -- the tile's own places have the tile's bytes
  pub put-own : length b ≡ tile_height s h w i * (tile_width s w i * 3) → (y x r z c : ℕ) → Lies s h w i y x r z → c < 3
      → get_or (put_tile s h w i b old) ((r * w + z) * 3 + c) 0 ≡ get_or b ((y * tile_width s w i + x) * 3 + c) 0
  put-own e y x r z c l hc =
      let n = tile_width s w i in
      let o = own_width s w i in
      let t = tiled s h w i q l.cut in
      let ends = t.wide.ends in
      let place : (r * w + z) * 3 + c ≡ row_place s w i y + (x * 3 + c) =
      sym (ap (λ (k : ℕ). (k * w + left s w i) * 3 + (x * 3 + c)) l.row ∙ sym (let f = l.column in omega arith)) in
      ap (λ (k : ℕ). get_or (put_tile s h w i b old) k 0) place
      ∙ puts-at old (row_place s w i) (own_row s w i b) (own_height s h w i) y (x * 3 + c) (o * 3) 0 l.tall (let f = l.wide in omega arith)
      (row-long l.cut e)
      (λ j hj. let f : top s w i + j < h = (let u = t.tall.ends in omega arith) in omega (arith, fit w f, ends, m))
      (λ j k hk. let f : top s w i + j < top s w i + k = omega arith in omega (arith, fit w f, ends))
      ∙ get_or-region b (y * (n * 3)) (o * 3) (x * 3 + c) 0 (let f = l.wide in omega arith)
      ∙ ap (λ (k : ℕ). get_or b k 0) (omega (arith, mul_assoc y n 3))

  -- every other place is kept
  pub put_rest : (i < tiles s h w → length b ≡ tile_height s h w i * (tile_width s w i * 3)) → (r z c : ℕ) → r < h → z < w → c < 3 → (i ≡ tile_of s w r z → ⊥)
      → get_or (put_tile s h w i b old) ((r * w + z) * 3 + c) 0 ≡ get_or old ((r * w + z) * 3 + c) 0
  put_rest e r z c hr hz hc n = puts-keep old (row_place s w i) (own_row s w i b) (own_height s h w i) ((r * w + z) * 3 + c) 0 (λ y hy. go y hy (dec_lt i (tiles s h w)))
    where
      inside : (y : ℕ) → y < own_height s h w i → i < tiles s h w → Apart ((r * w + z) * 3 + c) 1 (row_place s w i y) (own_width s w i * 3)
      inside y hy l = rows (dec_lt r (top s w i + y)) (dec_lt (top s w i + y) r)
        where
          columns : top s w i + y ≡ r → Dec (z < left s w i) → Dec (z < left s w i + own_width s w i) → Apart ((r * w + z) * 3 + c) 1 (row_place s w i y) (own_width s w i * 3)
          columns g (yes a) d = rw g (before (omega arith))
          columns g (no a) (no d) = rw g (after (omega arith))
          columns g (no a) (yes d) = absurd (n (lies-once s h w i y (z - left s w i) r z q (record {
            cut = l;
            tall = hy;
            wide = omega arith;
            row = g;
            column = omega arith;
          })).tile)

          rows : Dec (r < top s w i + y) → Dec (top s w i + y < r) → Apart ((r * w + z) * 3 + c) 1 (row_place s w i y) (own_width s w i * 3)
          rows (yes a) d = before (omega (arith, fit w a))
          rows (no a) (yes d) = let t = (tiled s h w i q l).wide.ends in after (omega (arith, fit w d))
          rows (no a) (no d) = columns (omega arith) (dec_lt z (left s w i)) (dec_lt z (left s w i + own_width s w i))

      -- what is no tile has no rows
      outside : tiles s h w ≤ i → own_height s h w i ≡ 0
      outside l =
          let a : 0 < across s w = is-piece (tile_side s) w (side-some s q) 0 (omega arith) in
          own-none (tile_side s) h (side-some s q) (i / across s w) ((le-div_iff_mul-le a).1 l)

      go : (y : ℕ) → y < own_height s h w i → Dec (i < tiles s h w) → Apart ((r * w + z) * 3 + c) 1 (row_place s w i y) (length (own_row s w i b y))
      go y hy (yes l) = rw (row-long l (e l) y hy) (inside y hy l)
      go y hy (no k) = let f = outside (omega arith) in absurd (omega arith)

-- ---- the sweep's own tiles
-- a tile has the sweep's bytes at its own places
pub tile-own : (s : PictureSettings) (rgb : List ℕ) (h w i y x r z c : ℕ) → Lies s h w i y x r z → tile_at s rgb h w i y x c ≡ pixel rgb w r z c
unfolding view_at
tile-own s rgb h w i y x r z c l = rw (lt-ltb _ _ l.tall, lt-ltb _ _ l.wide, l.row, l.column)

pub length-tile : (s : PictureSettings) (rgb : List ℕ) (h w i : ℕ) → length (tile_bytes s rgb h w i) ≡ tile_height s h w i * (tile_width s w i * 3)
length-tile s rgb h w i = length-picture (tile_height s h w i) (tile_width s w i) (tile_at s rgb h w i)

module _ (s : PictureSettings) (rgb : List ℕ) (h w : ℕ) (q : Ready s) where
  -- old is right at a place
  abbrev Right : List ℕ → ℕ → ℕ → ℕ → Type 0
  Right old r z c = get_or old ((r * w + z) * 3 + c) 0 ≡ pixel rgb w r z c

  -- the tile of a place makes it right
  pub put-makes : (old : List ℕ) → length old ≡ h * w * 3 → (y x r z c i : ℕ) → Lies s h w i y x r z → c < 3 → Right (put_tile s h w i (tile_bytes s rgb h w i) old) r z c
  put-makes old m y x r z c i l hc =
      let t = tiled s h w i q l.cut in
      put-own s h w i (tile_bytes s rgb h w i) old q m (length-tile s rgb h w i) y x r z c l hc
      ∙ picture-at (tile_height s h w i) (tile_width s w i) (tile_at s rgb h w i) 0 y x c (let a = l.tall in let b = t.tall.covers in omega arith) (let a = l.wide in let b = t.wide.covers in omega arith) hc
      ∙ tile-own s rgb h w i y x r z c l

  -- and no tile makes it wrong
  module _ (b : ℕ → List ℕ) (own : (i : ℕ) → i < tiles s h w → b i ≡ tile_bytes s rgb h w i) where
    pub put_keeps : (old : List ℕ) → length old ≡ h * w * 3 → (r z c i : ℕ) → r < h → z < w → c < 3 → Right old r z c → Right (put_tile s h w i (b i) old) r z c
    put_keeps old m r z c i hr hz hc e = go (eqb i (tile_of s w r z)) refl
      where
        go : (t : Bool) → eqb i (tile_of s w r z) ≡ t → Right (put_tile s h w i (b i) old) r z c
        go true g =
            let l = lies s h w r z q hr hz in
            let k = eqb-true i (tile_of s w r z) g in
            rw (k, own (tile_of s w r z) l.cut) (put-makes old m (r % tile_side s) (z % tile_side s) r z c (tile_of s w r z) l hc)
        go false g = put_rest s h w i (b i) old q m (λ l. ap length (own i l) ∙ length-tile s rgb h w i) r z c hr hz hc (eqb-false i (tile_of s w r z) g) ∙ e

    pub length-joined : (is old : List ℕ) → length (put_tiles s h w b is old) ≡ length old
    unfolding put_tiles
    length-joined [] old = refl
    length-joined (i ∷ is) old = length-joined is (put_tile s h w i (b i) old) ∙ length-puts old (row_place s w i) (own_row s w i (b i)) (own_height s h w i)

    joins-keep : (is old : List ℕ) → length old ≡ h * w * 3 → (r z c : ℕ) → r < h → z < w → c < 3 → Right old r z c → Right (put_tiles s h w b is old) r z c
    unfolding put_tiles
    joins-keep [] old m r z c hr hz hc e = e
    joins-keep (i ∷ is) old m r z c hr hz hc e =
        joins-keep is (put_tile s h w i (b i) old) (length-puts old (row_place s w i) (own_row s w i (b i)) (own_height s h w i) ∙ m) r z c hr hz hc (put_keeps old m r z c i hr hz hc e)

    -- a place whose tile is joined is right: the place first, which the tile's number depends on
    make : (r z c : ℕ) → r < h → z < w → c < 3 → (is old : List ℕ) → length old ≡ h * w * 3 → Has (tile_of s w r z) is → Right (put_tiles s h w b is old) r z c
    unfolding put_tiles
    make r z c hr hz hc [] old m t = elim t [ ]
    make r z c hr hz hc (i ∷ is) old m (here js) =
        let l = lies s h w r z q hr hz in
        let k = tile_of s w r z in
        joins-keep is (put_tile s h w k (b k) old) (length-puts old (row_place s w k) (own_row s w k (b k)) (own_height s h w k) ∙ m) r z c hr hz hc
        (rw (own k l.cut) (put-makes old m (r % tile_side s) (z % tile_side s) r z c k l hc))
    make r z c hr hz hc (i ∷ is) old m (there j js t) =
        make r z c hr hz hc is (put_tile s h w i (b i) old) (length-puts old (row_place s w i) (own_row s w i (b i)) (own_height s h w i) ∙ m) t

    pub joins-make : (is old : List ℕ) → length old ≡ h * w * 3 → (r z c : ℕ) → r < h → z < w → c < 3 → Has (tile_of s w r z) is → Right (put_tiles s h w b is old) r z c
    joins-make is old m r z c hr hz hc = make r z c hr hz hc is old m

    -- the tiles of the sweep, joined in any order and however often, over anything: the sweep's own bytes
    pub joined : length rgb ≡ h * w * 3 → (is old : List ℕ) → length old ≡ h * w * 3 → ((i : ℕ) → i < tiles s h w → Has i is) → put_tiles s h w b is old ≡ rgb
    joined n is old m has = ext_get_or 0 (put_tiles s h w b is old) rgb (length-joined is old ∙ m ∙ sym n) (λ k hk. at k (omega (arith, hk, length-joined is old, m)))
      where
        at : (k : ℕ) → k < h * w * 3 → get_or (put_tiles s h w b is old) k 0 ≡ get_or rgb k 0
        at k hk =
            let p : k / 3 < h * w = omega arith in
            let o : 0 < w = factor (k / 3) h w p in
            let r = k / 3 / w in
            let z = k / 3 % w in
            let hr : r < h = (div-lt_iff_lt-mul o).1 p in
            let hz : z < w = mod-lt (k / 3) o in
            let e : (r * w + z) * 3 + k % 3 ≡ k = ap (λ (j : ℕ). j * 3 + k % 3) (div-add-mod' (k / 3) w) ∙ div-add-mod' k 3 in
            subst (λ (j : ℕ). get_or (put_tiles s h w b is old) j 0 ≡ get_or rgb j 0) e
            (joins-make is old m r z (k % 3) hr hz (omega arith) (has (tile_of s w r z) (lies s h w r z q hr hz).cut))
