-- Laws of the padding's test: where a sample lies, which columns are passed over, and that byte 0's pattern decides. Assumes nothing.
use mathlib.Core.Path.{◌≡◌, refl, sym, ap, ◌∙◌}
use mathlib.Core.Bool.{Bool, true, false, ◌||◌, cond}
use mathlib.Core.List.{List}
use Prim.Native.Nat.{ℕ, suc, ◌+◌, ◌*◌, ◌/◌, ◌≤◌, ◌<◌}
use native.Mathlib.Nat.{div-lt_iff_lt-mul}
use native.Mathlib.Omega.{arith}
use native.Mathlib.Decide.{dec_lt}
use borrow.Author.Tests.{lt-ltb, le-ltb, ne_eqb}
use lib.Dec.{eqb, ltb}
use lib.ListN.{get_or}
use lib.Ieee.{Float, nan, binary32, to_bits}
use Rattle.buffers.specs.Rows.{all, first}
use Rattle.buffers.proofs.Lists.{fit, and_both, all_of, all-ext, all-fails}
use Rattle.picture_limits.specs.declared.View.{View}
use Rattle.picture_limits.specs.View.{has}
use Rattle.picture_limits.specs.Places.{patch_floats, sample_place}
use Rattle.picture_limits.proofs.Places.{place-in-patch}
use Rattle.picture_samples.specs.Samples.{byte_of}
use Rattle.picture_tiles.specs.Tile.{found}
use Rattle.picture_tiles.specs.inner.Padding.{own_columns, zero_pixel}

-- a pattern is byte 0's exactly when the byte found is 0
pub byte-zero : (k : ℕ → ℕ → ℕ) (c x : ℕ) → eqb (byte_of k c x) 0 ≡ eqb x (k c 0)
unfolding byte_of first
byte-zero k c x = go (eqb x (k c 0)) (first 255 (λ b. eqb x (k c (suc b))))
  where
    go : (b : Bool) (n : ℕ) → eqb (cond b 0 (suc n)) 0 ≡ b
    go true n = refl
    go false n = ne_eqb (suc n) 0 (λ e. omega arith)

module _ (p gw y x : ℕ) where
  -- the samples of a pixel lie p² apart
  pub apart : (c : ℕ) → sample_place p gw y x 0 + c * (p * p) ≡ sample_place p gw y x c
  apart c = omega arith

  -- and inside, where those of the row's patches do
  pub pixel-in : (len : ℕ) → 0 < p → (y / p * gw + gw) * patch_floats p ≤ len → x < gw * p → sample_place p gw y x 0 + 2 * (p * p) < len
  pixel-in len h r l =
      let a : x / p < gw = (div-lt_iff_lt-mul h).1 l in
      let b : y / p * gw + x / p < y / p * gw + gw = omega arith in
      omega (arith, r, fit (patch_floats p) b, place-in-patch p y x h)

-- what is tested of a pixel is what the definition asks
pub zero_is : (k : ℕ → ℕ → ℕ) (p gw : ℕ) (l : List Float) (y x : ℕ) → zero_pixel k (p * p) l (sample_place p gw y x 0) ≡ all 3 (λ c. eqb (found k p gw l y x c) 0)
zero_is k p gw l y x =
    all-ext 3 _ _ (λ c _.
    ap (λ (i : ℕ). eqb (to_bits binary32 (get_or l i nan)) (k c 0)) (apart p gw y x c)
    ∙ sym (byte-zero k c (to_bits binary32 (get_or l (sample_place p gw y x c) nan))))

-- the columns that are passed over are the view's, and no others of the row
module _ (v : View) (y : ℕ) where
  pub own-le : own_columns v y ≤ v.width
  unfolding own_columns
  own-le = go (ltb y v.height)
    where
      go : (b : Bool) → cond b v.width 0 ≤ v.width
      go true = omega arith
      go false = omega arith

  pub own-has : (x : ℕ) → x < own_columns v y → has v y x ≡ true
  unfolding own_columns
  own-has x = go (ltb y v.height) refl
    where
      go : (b : Bool) → ltb y v.height ≡ b → x < cond b v.width 0 → has v y x ≡ true
      go true e h = and_both (ltb y v.height) (ltb x v.width) e (lt-ltb x v.width h)
      go false e h = absurd (omega arith)

  pub own-not : (x : ℕ) → own_columns v y ≤ x → has v y x ≡ false
  unfolding own_columns
  own-not x = go (ltb y v.height) refl
    where
      go : (b : Bool) → ltb y v.height ≡ b → cond b v.width 0 ≤ x → has v y x ≡ false
      go true e h = rw (e, le-ltb x v.width h)
      go false e h = rw e

  -- so what is found behind them decides
  pub row-passes : (n : ℕ) (f : ℕ → Bool) → ((x : ℕ) → own_columns v y ≤ x → x < n → f x ≡ true) → all n (λ x. has v y x || f x) ≡ true
  row-passes n f e = all_of n _ (λ x h. go x h (dec_lt x (own_columns v y)))
    where
      go : (x : ℕ) → x < n → Dec (x < own_columns v y) → (has v y x || f x) ≡ true
      go x h (yes l) = rw (own-has x l) refl
      go x h (no m) = let l : own_columns v y ≤ x = omega arith in rw (own-not x l) (e x l h)

  pub row-fails : (n : ℕ) (f : ℕ → Bool) (x : ℕ) → own_columns v y ≤ x → x < n → f x ≡ false → all n (λ x. has v y x || f x) ≡ false
  row-fails n f x l h e = all-fails n _ x h (rw (own-not x l) e)
