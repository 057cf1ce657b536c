-- A whole number m times 2 ^ j, rounded to the 24 digits of an f32: the bits that `closest` gives are the nearest. Assumes nothing.
use Rattle.std.proofs.Common.{◌≡◌, ℕ, zero, suc, ◌+◌, ◌*◌, ◌/◌, ◌%◌, ◌^◌, ◌<◌, ◌≤◌, ◌⊎◌, sym, refl, ap, ◌∙◌, subst, inl, inr, le_trans, le_of_eq, lt_of_lt_of_le, le_of_suc-le-suc, le_of_lt, lt_irrefl, mul-le-mul_right, mod-lt, mul_assoc, eq-or-lt_of_le, mul-lt-mul_of_pos_right, div-add-mod', arith, lit<, pow_pos, pow-add}
use lib.Ieee.{nearest}
use lib.Ieee.Nearest.{closest}
use Rattle.number_floats.specs.Size.{count, Nearest}
use Rattle.number_floats.proofs.Ways.{lt-or-ge, compare-lt, compare-eq, compare-gt}
use Rattle.number_floats.proofs.Sizes.{grows, at-kept}
use Rattle.number_floats.proofs.narrow.Pick.{weakly, at_top, low, high}

-- an f32's size in units of 2 ^ w of the smallest
abbrev pub sized : ℕ → ℕ → ℕ
sized w b = count (2 ^ 23) b * 2 ^ w

pub sized-grows : (w a b : ℕ) → a < b → sized w a < sized w b
sized-grows w a b h = mul-lt-mul_of_pos_right (grows (2 ^ 23) (lit< tt) a b h) (pow_pos w)

-- ---- twice (q * a + t) * b against the middle of q * a * b and (q + 1) * a * b, by twice t against a
module _ (q a t m b : ℕ) (e : q * a + t ≡ m) (B : 0 < b) where
  middle-lt : t * 2 < a → 2 * (m * b) < q * a * b + suc q * a * b
  middle-lt h = let x : (q * a + t) * b ≡ m * b = ap (λ (n : ℕ). n * b) e in let y : t * 2 * b < a * b = mul-lt-mul_of_pos_right h B in omega arith

  middle-eq : t * 2 ≡ a → 2 * (m * b) ≡ q * a * b + suc q * a * b
  middle-eq h = let x : (q * a + t) * b ≡ m * b = ap (λ (n : ℕ). n * b) e in let y : t * 2 * b ≡ a * b = ap (λ (n : ℕ). n * b) h in omega arith

  middle-gt : a < t * 2 → q * a * b + suc q * a * b < 2 * (m * b)
  middle-gt h = let x : (q * a + t) * b ≡ m * b = ap (λ (n : ℕ). n * b) e in let y : a * b < t * 2 * b = mul-lt-mul_of_pos_right h B in omega arith

  from-below : q * a * b ≤ m * b
  from-below = mul-le-mul_right b (omega arith)

  from-above : t < a → m * b < suc q * a * b
  from-above h = mul-lt-mul_of_pos_right (omega arith) B

-- ---- the rounding
module _ (top w m j s k : ℕ) (fit : s + j ≡ k + w) (small : m / 2 ^ s < 2 ^ 24) (normal : (k ≡ 0) ⊎ (2 ^ 23 ≤ m / 2 ^ s)) where
  abbrev q : ℕ
  q = m / 2 ^ s

  abbrev r₀ : ℕ
  r₀ = k * 2 ^ 23 + q

  abbrev v : ℕ
  v = m * 2 ^ j

  abbrev mid : ℕ
  mid = sized w r₀ + sized w (suc r₀)

  unit : 2 ^ k * 2 ^ w ≡ 2 ^ s * 2 ^ j
  unit = sym (pow-add 2 k w) ∙ ap (λ (n : ℕ). 2 ^ n) (sym fit) ∙ pow-add 2 s j

  scaled : (n x : ℕ) → count (2 ^ 23) x ≡ n * 2 ^ k → sized w x ≡ n * 2 ^ s * 2 ^ j
  scaled n x e = ap (λ (c : ℕ). c * 2 ^ w) e ∙ mul_assoc n (2 ^ k) (2 ^ w) ∙ ap (λ (c : ℕ). n * c) unit ∙ sym (mul_assoc n (2 ^ s) (2 ^ j))

  size_low : sized w r₀ ≡ q * 2 ^ s * 2 ^ j
  size_low = scaled q r₀ (at-kept (2 ^ 23) k q (lit< tt) normal (omega arith))

  wider : (k ≡ 0) ⊎ (2 ^ 23 ≤ q) → (k ≡ 0) ⊎ (2 ^ 23 ≤ suc q)
  wider (inl e) = inl e
  wider (inr h) = inr (omega arith)

  size-high : sized w (suc r₀) ≡ suc q * 2 ^ s * 2 ^ j
  size-high = let e : suc r₀ ≡ k * 2 ^ 23 + suc q = omega arith in ap (sized w) e ∙ scaled (suc q) (k * 2 ^ 23 + suc q) (at-kept (2 ^ 23) k (suc q) (lit< tt) (wider normal) (omega arith))

  whole : q * 2 ^ s + m % 2 ^ s ≡ m
  whole = div-add-mod' m (2 ^ s)

  lo : sized w r₀ ≤ v
  lo = le_trans (le_of_eq size_low) (from-below q (2 ^ s) (m % 2 ^ s) m (2 ^ j) whole (pow_pos j))

  hi : v < sized w (suc r₀)
  hi = lt_of_lt_of_le (from-above q (2 ^ s) (m % 2 ^ s) m (2 ^ j) whole (pow_pos j) (mod-lt m (pow_pos s))) (le_of_eq (sym size-high))

  abbrev Answer : ℕ → Type 0
  Answer r = (r ≤ top → Nearest (sized w) top v r) × (top ≤ r → Nearest (sized w) top v top)

  past : top ≤ r₀ → Nearest (sized w) top v top
  past h = at_top (sized w) (sized-grows w) top v (le_trans (weakly (sized w) (sized-grows w) top r₀ h) lo)

  is-low : 2 * v ≤ mid → (2 * v ≡ mid → r₀ % 2 ≡ 0) → Answer r₀
  is-low l t = ((λ h. low (sized w) (sized-grows w) top v r₀ lo hi h l t), past)

  is-high : mid ≤ 2 * v → (2 * v ≡ mid → suc r₀ % 2 ≡ 0) → Answer (suc r₀)
  is-high l t = (up, λ h. elim (eq-or-lt_of_le h) [ inl e ↦ subst (λ (n : ℕ). Nearest (sized w) top v n) (sym e) (up (le_of_eq (sym e))) | inr g ↦ past (le_of_suc-le-suc g) ])
    where
      up : suc r₀ ≤ top → Nearest (sized w) top v (suc r₀)
      up h = high (sized w) (sized-grows w) top v r₀ lo hi h l t

  abbrev t₀ : ℕ
  t₀ = m % 2 ^ s

  mid-is : q * 2 ^ s * 2 ^ j + suc q * 2 ^ s * 2 ^ j ≡ mid
  mid-is = simp (size_low, size-high)

  tie : t₀ * 2 ≡ 2 ^ s → 2 * v ≡ mid
  tie h = middle-eq q (2 ^ s) t₀ m (2 ^ j) whole (pow_pos j) h ∙ mid-is

  below : t₀ * 2 < 2 ^ s → Answer (k * 2 ^ 23 + q)
  below h =
      let l : 2 * v < mid = subst (λ (n : ℕ). 2 * v < n) mid-is (middle-lt q (2 ^ s) t₀ m (2 ^ j) whole (pow_pos j) h) in
      is-low (le_of_lt l) (λ e. absurd (lt_irrefl mid (subst (λ (n : ℕ). n < mid) e l)))

  above : 2 ^ s < t₀ * 2 → Answer (suc r₀)
  above h =
      let l : mid < 2 * v = subst (λ (n : ℕ). n < 2 * v) mid-is (middle-gt q (2 ^ s) t₀ m (2 ^ j) whole (pow_pos j) h) in
      is-high (le_of_lt l) (λ e. absurd (lt_irrefl mid (subst (λ (n : ℕ). mid < n) e l)))

  level : t₀ * 2 ≡ 2 ^ s → (z : ℕ) → z ≡ q % 2 → Answer (k * 2 ^ 23 + (q + z))
  level h zero e = let p : r₀ ≡ k * 2 ^ 23 + (q + 0) = omega arith in subst Answer p (is-low (le_of_eq (tie h)) (λ _. omega arith))
  level h (suc zero) e = let p : suc r₀ ≡ k * 2 ^ 23 + (q + 1) = omega arith in subst Answer p (is-high (le_of_eq (sym (tie h))) (λ _. omega arith))
  level h (suc (suc z)) e = absurd (let l : q % 2 < 2 = mod-lt q (lit< tt) in omega arith)

  at : (n : ℕ) → closest m (2 ^ s) ≡ n → Answer (k * 2 ^ 23 + n) → Answer (k * 2 ^ 23 + closest m (2 ^ s))
  at n e a = subst (λ (c : ℕ). Answer (k * 2 ^ 23 + c)) (sym e) a

  pub rounded : Answer (k * 2 ^ 23 + closest m (2 ^ s))
  rounded = elim (lt-or-ge (t₀ * 2) (2 ^ s)) [
    | inl l ↦ at q (ap (nearest q) (compare-lt (t₀ * 2) (2 ^ s) l)) (below l)
    | inr g ↦ elim (eq-or-lt_of_le g) [
      | inl e ↦ at (q + q % 2) (ap (nearest q) (compare-eq (t₀ * 2) (2 ^ s) (sym e))) (level (sym e) (q % 2) refl)
      | inr l ↦ at (suc q) (ap (nearest q) (compare-gt (t₀ * 2) (2 ^ s) l)) (let p : suc r₀ ≡ k * 2 ^ 23 + suc q = omega arith in subst Answer p (above l))
    ]
  ]
