-- A whole number k added to 2 ^ 52 + 1023: the sum's pattern ends in the exponent's field of 2 ^ k. Assumes nothing.
use mathlib.Core.Path.{◌≡◌, refl, sym, ap, ◌∙◌, subst}
use mathlib.Core.Bool.{Bool, true, false, not, true≢false}
use Prim.Native.Nat.{ℕ, ◌+◌, ◌-◌, ◌*◌, ◌/◌, ◌%◌, ◌^◌, ◌≤◌, ◌<◌, min}
use native.Mathlib.Nat.{mul-one, mul-div_cancel, mod-eq_of_lt, min-eq_left}
use native.Mathlib.Omega.{arith}
use borrow.Author.Tests.{lt-ltb}
use lib.IntN.{ℤ}
use lib.Arith.{digits_mod}
use lib.Dec.{T}
use lib.Ieee.{Float, nan, inf, fin, binary64, up, down, minus, neg, round, sum, add, is_nan, nan_bits, of_bits, to_bits, to_unsigned}
use lib.Ieee.Fits.{down_pos}
use lib.Ieee.Exact.{HasValue}
use lib.Ieee.Back.{round_whole}
use Rattle.number_floats.proofs.whole.Closest.{number, whole-bits}
use Rattle.number_exp_tanh.specs.Exp.{two_to}
use Rattle.number_exp_tanh.proofs.exp.Twos.{minus-same, power-bits, power-no-nan}
use Rattle.number_exp_lanes.proofs.straight.Wholes.{add-whole}

-- ---- k is ±a
abbrev pub base : Float
base = of_bits binary64 0x4330_0000_0000_03FF

abbrev bias : ℕ
bias = 4503599627371519

base-is : HasValue base false bias 1
unfolding of_bits
base-is = (refl, refl)

abbrev pub field : Bool → ℕ → ℕ
field false a = 1023 + a
field true a = 1023 - a

module _ (a : ℕ) (small : a ≤ 1000) where
  moved : (s : Bool) (k : Float) → HasValue k s a 1 → add binary64 k base ≡ round binary64 false (2 ^ 52 + field s a) 1
  unfolding sum
  moved false k v = add-whole k base false a false bias v base-is ∙ ap (λ (n : ℕ). round binary64 false n 1) (let e : a + bias ≡ 2 ^ 52 + (1023 + a) = omega arith in e)
  moved true k v =
      add-whole k base true a false bias v base-is
      ∙ rw (lt-ltb a bias (omega arith)) (ap (λ (n : ℕ). round binary64 false n 1) (let e : bias - a ≡ 2 ^ 52 + (1023 - a) = omega arith in e))

  low : (s : Bool) → 1 ≤ field s a
  low false = omega arith
  low true = omega arith

  high : (s : Bool) → field s a ≤ 2046
  high false = omega arith
  high true = omega arith

  pub sum_number : (s : Bool) (k : Float) → HasValue k s a 1 → T (not (is_nan (add binary64 k base)))
  sum_number s k v = subst (λ (z : Float). T (not (is_nan z))) (sym (moved s k v)) (number (round binary64 false (2 ^ 52 + field s a) 1) false (2 ^ 52 + field s a) (round_whole binary64 false (2 ^ 52 + field s a) (omega (arith, high s))))

  -- what the shift leaves
  left : (n : ℕ) → n ≤ 2046 → (1074 * 2 ^ 52 + (2 ^ 52 + n)) * 2 ^ 52 % 2 ^ 64 ≡ n * 2 ^ 52 % 2 ^ 64
  left n h =
      let l : n * 2 ^ 52 < 2 ^ 64 = omega arith in
      ap (λ (z : ℕ). z % 2 ^ 64) (let e : (1074 * 2 ^ 52 + (2 ^ 52 + n)) * 2 ^ 52 ≡ 1075 * 2 ^ 40 * 2 ^ 64 + n * 2 ^ 52 = omega arith in e) ∙ digits_mod (1075 * 2 ^ 40) {m = 2 ^ 64} {r = n * 2 ^ 52} l ∙ sym (mod-eq_of_lt l)

  pub shift_is : (s : Bool) (k : Float) → HasValue k s a 1 → to_bits binary64 (add binary64 k base) * 2 ^ 52 % 2 ^ 64 ≡ field s a * 2 ^ 52 % 2 ^ 64
  shift_is s k v =
      ap (λ (z : ℕ). z * 2 ^ 52 % 2 ^ 64) (ap (to_bits binary64) (moved s k v) ∙ whole-bits (2 ^ 52 + field s a) (omega arith) (omega (arith, high s)))
      ∙ left (field s a) (high s)

  -- ---- the exponent
  cut : (m : ℕ) (e : ℤ) → m * up e * 1 ≡ a * down e → to_unsigned 64 (fin false m e) ≡ a
  unfolding to_unsigned
  cut m e h = ap (λ (z : ℕ). min (z / down e) (2 ^ 64 - 1)) (sym (mul-one (m * up e)) ∙ h) ∙ ap (λ (z : ℕ). min z (2 ^ 64 - 1)) (mul-div_cancel a (down_pos e)) ∙ min-eq_left (omega arith)

  pub exponent : (s : Bool) (k : Float) → HasValue k s a 1 → minus (field s a) 1023 ≡ minus (to_unsigned 64 k) (to_unsigned 64 (neg k))
  unfolding neg to_unsigned
  exponent s nan v = absurd v
  exponent s (inf t) v = absurd v
  exponent false (fin true m e) v = absurd (true≢false v.0)
  exponent false (fin false m e) v = minus-same (1023 + a) 1023 a 0 (omega arith) ∙ ap (λ (z : ℕ). minus z 0) (sym (cut m e v.1))
  exponent true (fin false m e) v = absurd (true≢false (sym v.0))
  exponent true (fin true m e) v = minus-same (1023 - a) 1023 0 a (omega arith) ∙ ap (minus 0) (sym (cut m e v.1))

  pub power-is : (s : Bool) (k : Float) → HasValue k s a 1 → of_bits binary64 (to_bits binary64 (add binary64 k base) * 2 ^ 52 % 2 ^ 64) ≡ two_to k
  power-is s k v = ap (of_bits binary64) (shift_is s k v) ∙ power-bits (field s a) (low s) (high s) ∙ ap (λ (z : ℤ). fin false 1 z) (exponent s k v)

  pub power-number : (s : Bool) (k : Float) → HasValue k s a 1 → T (not (nan_bits binary64 (to_bits binary64 (add binary64 k base) * 2 ^ 52 % 2 ^ 64)))
  power-number s k v = subst (λ (n : ℕ). T (not (nan_bits binary64 n))) (sym (shift_is s k v)) (power-no-nan (field s a) (low s) (high s))
