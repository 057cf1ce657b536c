-- From 2 ^ 52 to 2 ^ 53 a quotient rounds to the whole number closest to it, which is at most a half away; and such a number's
-- pattern. Assumes nothing.
use Rattle.std.proofs.Common.{◌≡◌, ℕ, suc, ◌+◌, ◌-◌, ◌*◌, ◌/◌, ◌%◌, ◌^◌, ◌<◌, ◌≤◌, Bool, false, not, T, leb, sym, ap, ◌∙◌, subst, inl, inr, true≢false, le_trans, le_of_eq, lt_of_lt_of_le, lt_of_le_of_lt, lt_irrefl, mul-le-mul_right, mod-lt, mod-eq_of_lt, mul_assoc, suc-mul, div-lt_iff_lt-mul, le_antisymm, eq-or-lt_of_le, mul-lt-mul_of_pos_right, mul-pos, div-add-mod', le-div_iff_mul-le, mul-one, mul_right_comm, arith, lit<, pow_pos, pow_mono, le-leb}
use Prim.Native.Nat.{compare}
use native.Mathlib.Nat.{eq_of_mul-eq-mul_right}
use lib.Ieee.{Float, nan, inf, fin, binary64, up, down, size, nearest, round, is_nan, to_bits}
use lib.Ieee.Digits.{size-lt, size-le}
use lib.Ieee.Exact.{HasValue}
use lib.Ieee.Back.{round_whole}
use lib.Ieee.Fits.{nearest-le, round-fits}
use lib.Ieee.Nearest.{closest, closest_same}
use lib.Ieee.Order.{drop, kept}
use lib.Ieee.Scale.{round_val}
use Rattle.number_floats.proofs.Ways.{lt-or-ge, compare-lt, compare-eq, compare-gt}
use Rattle.number_floats.proofs.Sizes.{size_same, at-kept}
use Rattle.number_floats.proofs.Values.{pattern-of-number}

-- ---- w is at most a half away from n / c
pub record Near (n c w : ℕ) : Type 0 where
  pub above : 2 * (w * c) ≤ 2 * n + c
  pub below : 2 * n ≤ 2 * (w * c) + c

module _ (n c : ℕ) (C : 0 < c) where
  abbrev q : ℕ
  q = n / c

  abbrev r : ℕ
  r = n % c

  parts : q * c + r ≡ n
  parts = div-add-mod' n c

  low_near : r * 2 ≤ c → Near n c q
  low_near h = record { above = omega (arith, parts); below = omega (arith, parts) }

  high-near : c ≤ r * 2 → Near n c (suc q)
  high-near h =
      let e : suc q * c ≡ q * c + c = suc-mul q c in
      let l : r < c = mod-lt n C in
      record { above = omega (arith, parts); below = omega (arith, parts) }

  even-near : r * 2 ≡ c → Near n c (q + q % 2)
  even-near h = elim (lt-or-ge (q % 2) 1) [
    | inl l ↦ subst (Near n c) (let e : q ≡ q + q % 2 = omega arith in e) (low_near (omega arith))
    | inr g ↦ subst (Near n c) (let e : suc q ≡ q + q % 2 = omega arith in e) (high-near (omega arith))
  ]

  closest-near : Near n c (closest n c)
  closest-near = elim (lt-or-ge (r * 2) c) [
    | inl l ↦ subst (Near n c) (sym (ap (nearest q) (compare-lt (r * 2) c l))) (low_near (omega arith))
    | inr g ↦ elim (eq-or-lt_of_le g) [
      | inl e ↦ subst (Near n c) (sym (ap (nearest q) (compare-eq (r * 2) c (sym e)))) (even-near (sym e))
      | inr l ↦ subst (Near n c) (sym (ap (nearest q) (compare-gt (r * 2) c l))) (high-near (omega arith))
    ]
  ]

-- ---- how many digits are dropped
size_is : (a n : ℕ) → 2 ^ a ≤ n → n < 2 ^ suc a → size n ≡ suc a
size_is a n lo hi = elim (lt-or-ge a (size n)) [
  | inl l ↦ le_antisymm (size-le n (suc a) hi) l
  | inr g ↦ absurd (lt_irrefl n (lt_of_lt_of_le (size-lt n) (le_trans (pow_mono g) lo)))
]

unscaled : (z : Float) (k g : ℕ) → 0 < g → HasValue z false (k * g) g → HasValue z false k 1
unscaled nan k g G v = v
unscaled (inf s) k g G v = v
unscaled (fin s m e) k g G v = (v.0, mul-one (m * up e) ∙ eq_of_mul-eq-mul_right g G (m * up e) (k * down e) (v.1 ∙ mul_right_comm k g (down e)))

module _ (n c : ℕ) (C : 0 < c) (lo : 2 ^ 52 * c ≤ n) (hi : n < 2 ^ 53 * c) where
  abbrev whole : ℕ
  whole = n * 2 ^ 1074 / c

  whole-low : 2 ^ 1126 ≤ whole
  whole-low = (le-div_iff_mul-le C).1 (le_trans (le_of_eq (mul_right_comm (2 ^ 52) (2 ^ 1074) c)) (mul-le-mul_right (2 ^ 1074) lo))

  whole-high : whole < 2 ^ 1127
  whole-high = (div-lt_iff_lt-mul C).1 (lt_of_lt_of_le (mul-lt-mul_of_pos_right hi (pow_pos 1074)) (le_of_eq (mul_right_comm (2 ^ 53) c (2 ^ 1074))))

  dropped : drop 53 (n * 2 ^ 1074) c ≡ 1074
  dropped = ap (λ (z : ℕ). z - 53) (size_is 1126 whole whole-low whole-high)

  kept-is : kept 53 (n * 2 ^ 1074) c ≡ closest n c
  kept-is =
      ap (λ (k : ℕ). closest (n * 2 ^ 1074) (c * 2 ^ k)) dropped
      ∙ closest_same (n * 2 ^ 1074) (c * 2 ^ 1074) n c (mul-pos C (pow_pos 1074)) C (mul_right_comm n (2 ^ 1074) c ∙ mul_assoc n c (2 ^ 1074))

  closest-high : closest n c ≤ 2 ^ 53
  closest-high = le_trans (nearest-le (n / c) (compare (n % c * 2) c)) ((div-lt_iff_lt-mul C).1 hi)

  pub rounds-near : (w : ℕ) × HasValue (round binary64 false n c) false w 1 × Near n c w
  rounds-near =
      let k = closest n c in
      let e : kept 53 (n * 2 ^ 1074) c * 2 ^ drop 53 (n * 2 ^ 1074) c ≡ k * 2 ^ 1074 = ap (λ (x : ℕ). x * 2 ^ drop 53 (n * 2 ^ 1074) c) kept-is ∙ ap (λ (x : ℕ). k * 2 ^ x) dropped in
      let u : k * 2 ^ 1074 < 2 ^ 2098 = lt_of_le_of_lt (mul-le-mul_right (2 ^ 1074) closest-high) (lit< tt) in
      let v = round_val binary64 n c (subst (λ (x : ℕ). x < 2 ^ 2098) (sym e) u) in
      (k, unscaled (round binary64 false n c) k (2 ^ 1074) (pow_pos 1074) (subst (λ (x : ℕ). HasValue (round binary64 false n c) false x (2 ^ 1074)) e v), closest-near n c C)

-- ---- the pattern of a whole number from 2 ^ 52 on
scaled : (x : Float) (s : Bool) (a g : ℕ) → HasValue x s a 1 → HasValue x s (a * g) g
scaled nan s a g v = v
scaled (inf t) s a g v = v
scaled (fin t m e) s a g v = (v.0, ap (λ (z : ℕ). z * g) (sym (mul-one (m * up e)) ∙ v.1) ∙ mul_right_comm a (down e) g)

pub below_top : (b : ℕ) → leb (2 ^ 63) b ≡ false → b < 2 ^ 63
below_top b h = elim (lt-or-ge b (2 ^ 63)) [ inl l ↦ l | inr g ↦ absurd (true≢false (sym (le-leb (2 ^ 63) b g) ∙ h)) ]

pub whole-bits : (w : ℕ) → 2 ^ 52 ≤ w → w < 2 ^ 53 → to_bits binary64 (round binary64 false w 1) ≡ 1074 * 2 ^ 52 + w
whole-bits w lo hi =
    let x = round binary64 false w 1 in
    let b = to_bits binary64 x in
    let v : HasValue x false w 1 = round_whole binary64 false w (omega arith) in
    let p = pattern-of-number binary64 x false (w * 2 ^ 1074) (round-fits binary64 false w 1) (scaled x false w (2 ^ 1074) v) in
    sym (mod-eq_of_lt (below_top b p.0))
    ∙ size_same (2 ^ 52) (lit< tt) (b % 2 ^ 63) (1074 * 2 ^ 52 + w) (p.1 ∙ sym (at-kept (2 ^ 52) 1074 w (lit< tt) (inr lo) (omega arith)))

-- a whole number is no NaN
pub number : (z : Float) (s : Bool) (a : ℕ) → HasValue z s a 1 → T (not (is_nan z))
unfolding is_nan
number nan s a v = absurd v
number (inf t) s a v = tt
number (fin t m e) s a v = tt
