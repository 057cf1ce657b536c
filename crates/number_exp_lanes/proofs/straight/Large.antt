-- From 2 ^ 52 to 2 ^ 53 a quotient rounds to one of the two whole numbers around it. Assumes nothing.
use mathlib.Core.Path.{◌≡◌, refl, sym, subst}
use mathlib.Core.Bool.{false}
use Prim.Native.Nat.{ℕ, ◌+◌, ◌*◌, ◌/◌, ◌^◌, ◌≤◌, ◌<◌}
use native.Mathlib.Nat.{mul-one, le_trans, le_of_eq, le_of_lt, div-mul-le_self, div-lt_iff_lt-mul, le-div_iff_mul-le, mul-le-mul_right}
use native.Mathlib.Omega.{arith}
use lib.Dec.{T, lit<}
use lib.Ieee.{Float, nan, inf, fin, binary64, fits, round, le}
use lib.Ieee.Fits.{round-fits}
use lib.Ieee.Exact.{HasValue}
use lib.Ieee.Back.{round_whole}
use lib.Ieee.Order.{round_mono}
use lib.Ieee.Positive.{num, den, positive, own_value, positive_of_value, values_of_le, between}
use Rattle.number_floats.proofs.whole.Floors.{large}

-- at 2 ^ 52 and above every f64 is whole
whole-den : (z : Float) → T (fits binary64 z) → T (positive z) → 2 ^ 52 * den z ≤ num z → den z ≡ 1
whole-den nan f p h = refl
whole-den (inf s) f p h = refl
whole-den (fin s m e) f p h = (large s m e f h).0

module _ (n c : ℕ) (C : 0 < c) (lo : 2 ^ 52 * c ≤ n) (hi : n < 2 ^ 53 * c) where
  abbrev q : ℕ
  q = n / c

  abbrev z : Float
  z = round binary64 false n c

  q-low : 2 ^ 52 ≤ q
  q-low = (le-div_iff_mul-le C).1 lo

  q-high : q < 2 ^ 53
  q-high = (div-lt_iff_lt-mul C).1 hi

  over : n < (q + 1) * c
  over = (div-lt_iff_lt-mul C).0 (omega arith)

  value : (k : ℕ) → k ≤ 2 ^ 53 → HasValue (round binary64 false k 1) false k 1
  value k h = round_whole binary64 false k h

  sure : (k : ℕ) → 2 ^ 52 ≤ k → k ≤ 2 ^ 53 → T (positive (round binary64 false k 1))
  sure k l h = positive_of_value (round binary64 false k 1) k 1 (value k h) (omega arith)

  low-le : T (le (round binary64 false q 1) z)
  low-le = round_mono binary64 q 1 n c (lit< tt) C (le_trans (div-mul-le_self n c) (le_of_eq (sym (mul-one n))))

  high_le : T (le z (round binary64 false (q + 1) 1))
  high_le = round_mono binary64 n c (q + 1) 1 C (lit< tt) (le_trans (le_of_eq (mul-one n)) (le_of_lt over))

  above_zero : T (positive z)
  above_zero = between (round binary64 false q 1) z (round binary64 false (q + 1) 1) (sure q q-low (omega (arith, q-high))) (sure (q + 1) (omega (arith, q-low)) (omega (arith, q-high))) low-le high_le

  from : q * den z ≤ num z
  from =
      le_trans (values_of_le (round binary64 false q 1) z q 1 (num z) (den z) (sure q q-low (omega (arith, q-high))) above_zero (value q (omega (arith, q-high))) (own_value z above_zero) low-le)
      (le_of_eq (mul-one (num z)))

  upto : num z ≤ (q + 1) * den z
  upto =
      le_trans (le_of_eq (sym (mul-one (num z))))
      (values_of_le z (round binary64 false (q + 1) 1) (num z) (den z) (q + 1) 1 above_zero (sure (q + 1) (omega (arith, q-low)) (omega (arith, q-high))) (own_value z above_zero) (value (q + 1) (omega (arith, q-high))) high_le)

  den-one : den z ≡ 1
  den-one = whole-den z (round-fits binary64 false n c) above_zero (le_trans (mul-le-mul_right (den z) q-low) from)

  pub around : (w : ℕ) × HasValue z false w 1 × (q ≤ w) × (w ≤ q + 1)
  around =
      let a : q * 1 ≤ num z = subst (λ (d : ℕ). q * d ≤ num z) den-one from in
      let b : num z ≤ (q + 1) * 1 = subst (λ (d : ℕ). num z ≤ (q + 1) * d) den-one upto in
      (num z, subst (λ (d : ℕ). HasValue z false (num z) d) den-one (own_value z above_zero), omega arith, omega arith)
