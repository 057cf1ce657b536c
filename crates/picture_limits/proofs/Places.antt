-- Products of bounded numbers, and where a sample and a byte lie. Assumes nothing.
use mathlib.Core.Path.{◌≡◌, ap, ◌∙◌}
use Prim.Native.Nat.{ℕ, ◌+◌, ◌*◌, ◌/◌, ◌%◌, ◌≤◌, ◌<◌}
use native.Mathlib.Nat.{suc-mul, mul-le-mul_right, mul-le-mul_left, div-lt_iff_lt-mul, mod-lt, mul_assoc, mul-add-div_right, div-eq_of_lt, add-zero, add_comm, add_assoc, add-mul-mod_self_right, mod-eq_of_lt}
use native.Mathlib.Omega.{arith}
use native.Mathlib.Numerals.{add-one}
use lib.ListN.{length, get_or}
use Rattle.buffers.specs.Rows.{tab, rows}
use Rattle.buffers.proofs.Lists.{fit, length-tab, length-rows, get_or-tab, get_d_rows}
use Rattle.picture_limits.specs.Places.{patch_floats, picture, sample_place}

pub turn : (k n : ℕ) → (k + 1) * n ≡ k * n + n
turn k n = rw (add-one, suc-mul)

-- a product of bounded numbers
pub times : (a b c d : ℕ) → a ≤ c → b ≤ d → a * b ≤ c * d
times a b c d h k = omega (arith, mul-le-mul_right b h, mul-le-mul_left c k)

pub square : (p : ℕ) → p ≤ 32 → p * p ≤ 1024
square p h = omega (arith, mul-le-mul_right p h)

-- ---- where a sample lies
pub patch-in : (p gh gw r x : ℕ) → 0 < p → r < gh * p → x < gw * p → r / p * gw + x / p < gh * gw
patch-in p gh gw r x h a b =
    let i : r / p < gh = (div-lt_iff_lt-mul h).1 a in
    let j : x / p < gw = (div-lt_iff_lt-mul h).1 b in
    omega (arith, fit gw i)

pub place-in-patch : (p r x : ℕ) → 0 < p → r % p * p + x % p < p * p
place-in-patch p r x h = omega (arith, fit p (mod-lt r h), mod-lt x h)

-- patch q, channel c, place k
pub at_in : (p n q c k : ℕ) → q < n → c < 3 → k < p * p → q * patch_floats p + c * (p * p) + k < n * patch_floats p
at_in p n q c k a b d = omega (arith, fit (patch_floats p) a, fit (p * p) b)

-- ---- the place of a sample by its patch, and its row and column in the patch
module _ (p : ℕ) (h : 0 < p) where
  pub quotient : (a i : ℕ) → i < p → (a * p + i) / p ≡ a
  quotient a i k = mul-add-div_right h a i ∙ ap (λ (t : ℕ). a + t) (div-eq_of_lt k) ∙ add-zero a

  pub remainder : (a i : ℕ) → i < p → (a * p + i) % p ≡ i
  remainder a i k = ap (λ (t : ℕ). t % p) (add_comm (a * p) i) ∙ add-mul-mod_self_right i a p ∙ mod-eq_of_lt k

  pub place-of : (gw a b c i j : ℕ) → i < p → j < p → sample_place p gw (a * p + i) (b * p + j) c ≡ (a * gw + b) * patch_floats p + (c * (p * p) + (i * p + j))
  place-of gw a b c i j hi hj =
      rw (quotient a i hi, quotient b j hj, remainder a i hi, remainder b j hj) (add_assoc ((a * gw + b) * patch_floats p) (c * (p * p)) (i * p + j))

-- ---- a picture's bytes
pub length-picture : {A : Type 0} (h w : ℕ) (v : ℕ → ℕ → ℕ → A) → length (picture h w v) ≡ h * (w * 3)
length-picture h w v = length-rows (λ y. rows w (λ x. tab 3 (λ c. v y x c))) (w * 3) (λ y. length-rows (λ x. tab 3 (λ c. v y x c)) 3 (λ x. length-tab 3 (λ c. v y x c)) w) h

pub picture-at : {A : Type 0} (h w : ℕ) (v : ℕ → ℕ → ℕ → A) (d : A) (y x c : ℕ) → y < h → x < w → c < 3 → get_or (picture h w v) ((y * w + x) * 3 + c) d ≡ v y x c
picture-at h w v d y x c hy hx hc =
    let e : (y * w + x) * 3 + c ≡ y * (w * 3) + (x * 3 + c) = omega (arith, mul_assoc y w 3) in
    let l : x * 3 + c < w * 3 = omega arith in
    ap (λ (k : ℕ). get_or (picture h w v) k d) e
    ∙ get_d_rows (λ y. rows w (λ x. tab 3 (λ c. v y x c))) (w * 3) (λ y. length-rows (λ x. tab 3 (λ c. v y x c)) 3 (λ x. length-tab 3 (λ c. v y x c)) w) h y (x * 3 + c) d hy l
    ∙ get_d_rows (λ x. tab 3 (λ c. v y x c)) 3 (λ x. length-tab 3 (λ c. v y x c)) w x c d hx hc
    ∙ get_or-tab 3 c (λ c. v y x c) d hc
