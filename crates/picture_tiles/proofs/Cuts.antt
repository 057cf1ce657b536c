-- Laws of the cut: the sides of a tile and its grid, and that every place of the sweep lies in exactly one tile, at one
-- place in it. Assumes nothing.
use mathlib.Core.Path.{◌≡◌, sym, ap, ◌∙◌}
use mathlib.Core.Bool.{true}
use Prim.Native.Nat.{ℕ, zero, suc, ◌+◌, ◌*◌, ◌-◌, ◌/◌, ◌%◌, ◌≤◌, ◌<◌}
use native.Mathlib.Nat.{mul_comm, mul_assoc, mul-pos, mul-zero, mul-le-mul_right, mul-div_cancel, mul-mod_left, le-div_iff_mul-le, div-lt_iff_lt-mul, div-mul-le_self, div-add-mod', mod-lt}
use native.Mathlib.Omega.{arith}
use borrow.Author.Tests.{le-leb, eq-eqb}
use lib.Dec.{leb, eqb}
use Rattle.buffers.proofs.Lists.{fit, and_both}
use Rattle.picture_limits.specs.declared.PictureSettings.{PictureSettings}
use Rattle.picture_limits.specs.Settings.{allowed, align}
use Rattle.picture_limits.specs.Shape.{most, grid_allowed}
use Rattle.picture_limits.proofs.Places.{times, quotient, remainder}
use Rattle.picture_limits.proofs.Sides.{allowed-says}
use Rattle.picture_tiles.specs.Cut.{Ready, pieces, own, up, tile_side, down, across, tiles}
use Rattle.picture_tiles.specs.Undo.{Lies}
use Rattle.picture_tiles.proofs.Pieces.{own-low, own-high, own-ends, covered, once, up-covers, up-low, up-high}

pub align-low : (s : PictureSettings) → allowed s ≡ true → 1 ≤ align s
align-low s a = let o = allowed-says s a in mul-pos o.patch-low o.merge_low

-- the side of a tile
pub side-low : (s : PictureSettings) → Ready s → align s ≤ tile_side s
side-low s q =
    let l = align-low s q.settings in
    let i = q.image in
    let u : 1 ≤ s.image_size / align s = (le-div_iff_mul-le l).1 (omega arith) in
    omega (arith, mul-le-mul_right (align s) u)

pub side-high : (s : PictureSettings) → tile_side s ≤ s.image_size
side-high s = div-mul-le_self s.image_size (align s)

-- and no larger multiple is one
pub side-most : (s : PictureSettings) (k : ℕ) → Ready s → k * align s ≤ s.image_size → k * align s ≤ tile_side s
side-most s k q h = mul-le-mul_right (align s) ((le-div_iff_mul-le (align-low s q.settings)).1 h)

pub side-some : (s : PictureSettings) → Ready s → 0 < tile_side s
side-some s q = let l = align-low s q.settings in let m = side-low s q in omega arith

-- ---- a tile along one side of the sweep, n long: piece j
pub record Along (s : PictureSettings) (n j : ℕ) : Type 0 where
  -- what it has of the sweep lies in the sweep, and in the tile
  pub some : 1 ≤ own (tile_side s) n j
  pub ends : j * tile_side s + own (tile_side s) n j ≤ n
  pub covers : own (tile_side s) n j ≤ up (align s) (own (tile_side s) n j)
  -- the padded side is a multiple of A, from A to s, and so not above image size
  pub even : up (align s) (own (tile_side s) n j) % align s ≡ 0
  pub low : align s ≤ up (align s) (own (tile_side s) n j)
  pub high : up (align s) (own (tile_side s) n j) ≤ tile_side s
  pub image : up (align s) (own (tile_side s) n j) ≤ s.image_size
  -- its patches span it, and restore and forward allow them
  pub span : up (align s) (own (tile_side s) n j) / s.patch_size * s.patch_size ≡ up (align s) (own (tile_side s) n j)
  pub grid : grid_allowed s (up (align s) (own (tile_side s) n j) / s.patch_size) ≡ true

pub along : (s : PictureSettings) (n j : ℕ) → Ready s → j < pieces (tile_side s) n → Along s n j
along s n j q h =
    let p = s.patch_size in
    let m = s.spatial_merge_size in
    let t = tile_side s in
    let a = align s in
    let o = allowed-says s q.settings in
    let x = own t n j in
    let k = (x + (a - 1)) / a in
    let b = align-low s q.settings in
    let z = side-some s q in
    let low = up-low a b x (own-low t n z j h) in
    let high : k * a ≤ t = up-high a b (s.image_size / a) x (own-high t n z j) in
    let image : k * a ≤ s.image_size = omega (arith, high, side-high s) in
    let e : k * a ≡ k * m * p = ap (λ (i : ℕ). k * i) (mul_comm p m) ∙ sym (mul_assoc k m p) in
    let g : k * a / p ≡ k * m = ap (λ (i : ℕ). i / p) e ∙ mul-div_cancel (k * m) o.patch-low in
    let span : k * a / p * p ≡ k * a = ap (λ (i : ℕ). i * p) g ∙ sym e in
    let one : 1 ≤ k = (le-div_iff_mul-le b).1 (omega (arith, own-low t n z j h)) in
    let few : 1 ≤ k * a / p = omega (arith, g, times 1 1 k m one o.merge_low) in
    let most' : k * a / p ≤ most s = (le-div_iff_mul-le o.patch-low).1 (omega (arith, span, image)) in
    record {
      some = own-low t n z j h;
      ends = own-ends t n z j h;
      covers = up-covers a b x;
      even = mul-mod_left k a;
      low = low;
      high = high;
      image = image;
      span = span;
      grid = and_both _ (eqb (k * a / p % m) 0) (and_both (leb 1 (k * a / p)) (leb (k * a / p) (most s)) (le-leb _ _ few) (le-leb _ _ most')) (eq-eqb _ _ (ap (λ (i : ℕ). i % m) g ∙ mul-mod_left k m));
    }

-- ---- tile i of the cut
pub record Tiled (s : PictureSettings) (h w i : ℕ) : Type 0 where
  pub tall : Along s h (i / across s w)
  pub wide : Along s w (i % across s w)

-- a factor of what is above something is not 0
pub factor : (i d : ℕ) (a : ℕ) → i < d * a → 0 < a
factor i d zero h = absurd (omega (arith, h, mul-zero d))
factor i d (suc a) h = omega arith

pub row_in : (s : PictureSettings) (h w i : ℕ) → i < tiles s h w → i / across s w < down s h
row_in s h w i l = (div-lt_iff_lt-mul (factor i (down s h) (across s w) l)).1 l

pub column-in : (s : PictureSettings) (h w i : ℕ) → i < tiles s h w → i % across s w < across s w
column-in s h w i l = mod-lt i (factor i (down s h) (across s w) l)

pub tiled : (s : PictureSettings) (h w i : ℕ) → Ready s → i < tiles s h w → Tiled s h w i
tiled s h w i q l = record { tall = along s h (i / across s w) q (row_in s h w i l); wide = along s w (i % across s w) q (column-in s h w i l) }

-- ---- every place of the sweep lies in exactly one tile, at one place in it
-- the tile of row r and column z
abbrev pub tile_of : PictureSettings → ℕ → ℕ → ℕ → ℕ
tile_of s w r z = r / tile_side s * across s w + z / tile_side s

pub lies : (s : PictureSettings) (h w r z : ℕ) → Ready s → r < h → z < w → Lies s h w (tile_of s w r z) (r % tile_side s) (z % tile_side s) r z
lies s h w r z q hr hz =
    let t = tile_side s in
    let a = across s w in
    let o = side-some s q in
    let u = covered t h o r hr in
    let v = covered t w o z hz in
    let i : tile_of s w r z / a ≡ r / t = quotient a (omega (arith, v.0)) (r / t) (z / t) v.0 in
    let j : tile_of s w r z % a ≡ z / t = remainder a (omega (arith, v.0)) (r / t) (z / t) v.0 in
    record {
      cut = omega (arith, fit a u.0, v.0);
      tall = rw i u.1;
      wide = rw j v.1;
      row = rw i u.2;
      column = rw j v.2;
    }

pub record Only (s : PictureSettings) (h w i y x r z : ℕ) : Type 0 where
  pub tile : i ≡ tile_of s w r z
  pub tall : y ≡ r % tile_side s
  pub wide : x ≡ z % tile_side s
  pub row : r < h
  pub column : z < w

pub lies-once : (s : PictureSettings) (h w i y x r z : ℕ) → Ready s → Lies s h w i y x r z → Only s h w i y x r z
lies-once s h w i y x r z q l =
    let t = tile_side s in
    let a = across s w in
    let o = side-some s q in
    let u = once t h o r (i / a) y l.tall l.row in
    let v = once t w o z (i % a) x l.wide l.column in
    record {
      tile = sym (div-add-mod' i a) ∙ ap (λ (k : ℕ). k * a + i % a) u.1 ∙ ap (λ (k : ℕ). r / t * a + k) v.1;
      tall = u.2;
      wide = v.2;
      row = u.0;
      column = v.0;
    }
