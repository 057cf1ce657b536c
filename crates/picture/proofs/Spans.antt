-- A resized side and its grid; and a grid's side, which is the grid of the side that it spans. Assumes nothing.
use mathlib.Core.Path.{◌≡◌, refl, sym, ap, ◌∙◌}
use mathlib.Core.Bool.{true}
use Prim.Native.Nat.{ℕ, zero, suc, ◌+◌, ◌*◌, ◌-◌, ◌/◌, ◌%◌, ◌≤◌, ◌<◌, min}
use native.Mathlib.Nat.{mul_assoc, mul_comm, mul-div_cancel, mul-mod_left, mul-le-mul_right, mul-pos, le-div_iff_mul-le, div-add-mod', add-zero, zero-mul}
use native.Mathlib.Omega.{arith}
use borrow.Author.Tests.{le-leb, eq-eqb}
use lib.Dec.{leb, eqb}
use Rattle.buffers.proofs.Lists.{and_both}
use Rattle.picture_limits.specs.declared.PictureSettings.{PictureSettings}
use Rattle.picture_limits.specs.Settings.{allowed, align}
use Rattle.picture_limits.specs.Sides.{kept, side, resized, grid_of}
use Rattle.picture_limits.specs.Shape.{most, grid_allowed}
use Rattle.picture_limits.proofs.Places.{times}
use Rattle.picture_limits.proofs.Sides.{allowed-says, kept_low, kept_same, side-le, side_same}
use Rattle.picture_limits.proofs.Shapes.{grid-side-says}

-- the side is k times patch times merge, with k above 0
multiple : (a n x : ℕ) → 0 < a → a ≤ n → 1 ≤ x → (k : ℕ) × (side a n x ≡ k * a) × (1 ≤ k)
unfolding side
multiple a n x h l m =
    let u : 1 ≤ (x + (a - 1)) / a = (le-div_iff_mul-le h).1 (omega arith) in
    let v : a ≤ (x + (a - 1)) / a * a = omega (arith, mul-le-mul_right a u) in
    (min ((x + (a - 1)) / a * a) n / a, refl, (le-div_iff_mul-le h).1 (omega arith))

pub record Spanned (s : PictureSettings) (l x : ℕ) : Type 0 where
  pub span : grid_of s l x * s.patch_size ≡ resized s l x
  pub allowed : grid_allowed s (grid_of s l x) ≡ true

pub spanned : (s : PictureSettings) (l x : ℕ) → allowed s ≡ true → align s ≤ s.image_size → 1 ≤ x → Spanned s l x
spanned s l x a i h =
    let p = s.patch_size in
    let m = s.spatial_merge_size in
    let n = s.image_size in
    let o = allowed-says s a in
    let y = kept s.resize_rule n l x in
    let t = multiple (p * m) n y (mul-pos o.patch-low o.merge_low) i (kept_low s.resize_rule n l x h) in
    let k = t.0 in
    let e : resized s l x ≡ k * m * p = t.1 ∙ ap (λ (z : ℕ). k * z) (mul_comm p m) ∙ sym (mul_assoc k m p) in
    let g : grid_of s l x ≡ k * m = ap (λ (z : ℕ). z / p) e ∙ mul-div_cancel (k * m) o.patch-low in
    let z : grid_of s l x * p ≡ resized s l x = ap (λ (z : ℕ). z * p) g ∙ sym e in
    let low : 1 ≤ grid_of s l x = omega (arith, g, times 1 1 k m t.2 o.merge_low) in
    let high : grid_of s l x ≤ n / p = (le-div_iff_mul-le o.patch-low).1 (omega (arith, z, side-le (p * m) n y)) in
    record {
      span = z;
      allowed = and_both _ (eqb (grid_of s l x % m) 0) (and_both (leb 1 (grid_of s l x)) (leb (grid_of s l x) (most s)) (le-leb _ _ low) (le-leb _ _ high)) (eq-eqb _ _ (ap (λ (z : ℕ). z % m) g ∙ mul-mod_left k m));
    }

-- a grid's side is the grid of the side that it spans, in a picture whose longer side l is not above the image size
pub record Spans (s : PictureSettings) (l g : ℕ) : Type 0 where
  pub same : resized s l (g * s.patch_size) ≡ g * s.patch_size
  pub back : grid_of s l (g * s.patch_size) ≡ g
  pub image : align s ≤ s.image_size
  pub low : 1 ≤ g * s.patch_size
  pub high : g * s.patch_size ≤ 2048

pub spans : (s : PictureSettings) (l g : ℕ) → allowed s ≡ true → grid_allowed s g ≡ true → l ≤ s.image_size → Spans s l g
spans s l g a e b =
    let p = s.patch_size in
    let m = s.spatial_merge_size in
    let n = s.image_size in
    let o = allowed-says s a in
    let t = grid-side-says s g o.patch-low e in
    let k = g / m in
    let f : g ≡ k * m = sym (sym (add-zero (k * m)) ∙ ap (λ (z : ℕ). k * m + z) (sym t.even) ∙ div-add-mod' g m) in
    let u : g * p ≡ k * (p * m) = ap (λ (z : ℕ). z * p) f ∙ mul_assoc k m p ∙ ap (λ (z : ℕ). k * z) (mul_comm m p) in
    let one : 1 ≤ k = positive k (λ z. omega (arith, t.low, f, ap (λ (i : ℕ). i * m) z, zero-mul m)) in
    let r : resized s l (g * p) ≡ g * p = ap (side (p * m) n) (kept_same s.resize_rule n l (g * p) b) ∙ side_same (p * m) n (g * p) (mul-pos o.patch-low o.merge_low) (ap (λ (z : ℕ). z % (p * m)) u ∙ mul-mod_left k (p * m)) t.high in
    record {
      same = r;
      back = ap (λ (z : ℕ). z / p) r ∙ mul-div_cancel g o.patch-low;
      image = omega (arith, u, t.high, mul-le-mul_right (p * m) one);
      low = omega (arith, times 1 1 g p t.low o.patch-low);
      high = omega (arith, t.high, o.image-high);
    }
  where
    positive : (k : ℕ) → (k ≡ 0 → ⊥) → 1 ≤ k
    positive zero f = absurd (f refl)
    positive (suc k) f = omega arith
