-- What allowed settings and sides say. Assumes nothing.
use mathlib.Core.Path.{◌≡◌, refl, sym, ap, ◌∙◌}
use mathlib.Core.Bool.{Bool, true, false, ◌&&◌, cond}
use Prim.Native.Nat.{ℕ, ◌+◌, ◌*◌, ◌-◌, ◌/◌, ◌%◌, ◌≤◌, ◌<◌, min, max}
use native.Mathlib.Nat.{min-eq_left, mul-add-div_right, div-eq_of_lt, add-zero, div-add-mod', div-mul-le_self, mul-le-mul_right, mul-le-mul_left, mul_comm, mul-one, le_refl, le_of_lt, max-le, div-le_of_le-mul}
use native.Mathlib.Omega.{arith}
use borrow.Author.Tests.{leb-true, ltb-true, le-ltb}
use lib.Dec.{eqb, leb, ltb}
use Rattle.picture_limits.specs.declared.PictureSettings.{PictureSettings}
use Rattle.picture_limits.specs.Settings.{within, allowed, sided}
use Rattle.picture_limits.specs.Sides.{kept, side}
use Rattle.buffers.proofs.Lists.{and_left, and_right}
use Rattle.picture_limits.proofs.Places.{square, times}

pub within-says : (a b x : ℕ) → within a b x ≡ true → (a ≤ x) × (x ≤ b)
within-says a b x e = (leb-true a x (and_left (leb a x) (leb x b) e), leb-true x b (and_right (leb a x) (leb x b) e))

pub record Allowed (p m n : ℕ) : Type 0 where
  pub patch-low : 1 ≤ p
  pub patch-high : p ≤ 32
  pub merge_low : 1 ≤ m
  pub merge-high : m ≤ 4
  pub image-low : 1 ≤ n
  pub image-high : n ≤ 2048

pub allowed-says : (s : PictureSettings) → allowed s ≡ true → Allowed s.patch_size s.spatial_merge_size s.image_size
unfolding allowed
allowed-says s e =
    let A = within 1 32 s.patch_size in
    let B = within 1 4 s.spatial_merge_size in
    let C = within 1 2048 s.image_size in
    let D = within 1 2 s.resize_rule in
    let t = and_left (A && B && C) D e in
    let p = within-says 1 32 s.patch_size (and_left A B (and_left (A && B) C t)) in
    let m = within-says 1 4 s.spatial_merge_size (and_right A B (and_left (A && B) C t)) in
    let n = within-says 1 2048 s.image_size (and_right (A && B) C t) in
    record { patch-low = p.0; patch-high = p.1; merge_low = m.0; merge-high = m.1; image-low = n.0; image-high = n.1 }

pub sided-says : (h w : ℕ) → sided h w ≡ true → (1 ≤ h) × (h ≤ 8192) × (1 ≤ w) × (w ≤ 8192)
sided-says h w e =
    let a = within-says 1 8192 h (and_left (within 1 8192 h) (within 1 8192 w) e) in
    let b = within-says 1 8192 w (and_right (within 1 8192 h) (within 1 8192 w) e) in
    (a.0, a.1, b.0, b.1)

-- ---- a side before the rounding
pub kept_low : (rule n m x : ℕ) → 1 ≤ x → 1 ≤ kept rule n m x
unfolding kept
kept_low rule n m x h = go (eqb rule 2 && ltb n m)
  where
    go : (b : Bool) → 1 ≤ cond b (max 1 (x * n / m)) x
    go true = omega arith
    go false = h

-- it does not grow
pub kept_high : (rule n m x : ℕ) → 1 ≤ x → kept rule n m x ≤ x
unfolding kept
kept_high rule n m x h = go (eqb rule 2) (ltb n m) refl
  where
    go : (b d : Bool) → ltb n m ≡ d → cond (b && d) (max 1 (x * n / m)) x ≤ x
    go false d e = le_refl x
    go true false e = le_refl x
    go true true e = max-le h (div-le_of_le-mul m (omega (arith, mul_comm m x, mul-le-mul_left x (le_of_lt (ltb-true n m e)))))

-- under either rule a picture whose longer side is not above the image size keeps its sides
pub kept_same : (rule n m x : ℕ) → m ≤ n → kept rule n m x ≡ x
unfolding kept
kept_same rule n m x h = go (eqb rule 2)
  where
    go : (b : Bool) → cond (b && ltb n m) (max 1 (x * n / m)) x ≡ x
    go true = rw (le-ltb _ _ h) refl
    go false = refl

pub side-le : (a n x : ℕ) → side a n x ≤ n
unfolding side
side-le a n x = let m = min ((x + (a - 1)) / a * a) n in let l : m ≤ n = omega arith in omega (arith, div-mul-le_self m a)

-- a grid's side, and the sides that it spans
pub record Spans (g p : ℕ) : Type 0 where
  pub low : g ≤ 2048
  pub span : g * p ≤ 2048

pub spans : (t p : ℕ) → 1 ≤ p → t ≤ 2048 → Spans (t / p) p
spans t p h l =
    let e : t / p * p ≤ t = div-mul-le_self t p in
    let k : t / p * 1 ≤ t / p * p = mul-le-mul_left (t / p) h in
    record { low = omega arith; span = omega arith }

-- a side that is a multiple of a and not above n stays
pub side_same : (a n x : ℕ) → 0 < a → x % a ≡ 0 → x ≤ n → side a n x ≡ x
unfolding side
side_same a n x h m l =
    let e : x / a * a ≡ x = sym (add-zero (x / a * a)) ∙ ap (λ (k : ℕ). x / a * a + k) (sym m) ∙ div-add-mod' x a in
    let u : (x + (a - 1)) / a ≡ x / a = ap (λ (k : ℕ). (k + (a - 1)) / a) (sym e) ∙ mul-add-div_right h (x / a) (a - 1) ∙ ap (λ (k : ℕ). x / a + k) (div-eq_of_lt (omega arith)) ∙ add-zero (x / a) in
    ap (λ (k : ℕ). min (k * a) n / a * a) u ∙ ap (λ (k : ℕ). min k n / a * a) e ∙ ap (λ (k : ℕ). k / a * a) (min-eq_left l) ∙ e
