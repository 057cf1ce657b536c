-- What `truncating_f64_to_u64` asks, and what it gives of a small number; and which side of zero a number is on. Assumes nothing.
use Rattle.std.proofs.Common.{◌≡◌, ℕ, ◌+◌, ◌*◌, ◌/◌, ◌^◌, ◌<◌, ◌≤◌, true, false, T, ℤ, pos, le_of_suc-le-suc, div-lt_iff_lt-mul, mul-lt-mul_of_pos_right, arith, lt→ltb, ltb-false, ltb-true}
use lib.Ieee.{Float, fin, binary64, up, down, lt, of_bits, to_unsigned}
use lib.Ieee.Fits.{down_pos}

-- ---- a number from 0 to n can be cut to a u64, which is then at most n
abbrev pub Cuttable : Float → Type 0
Cuttable z = T (lt (fin true 1 (pos 0)) z) × T (lt z (fin false 1 (pos 64)))

pub cuttable : (n m : ℕ) (e : ℤ) → n < 2 ^ 64 → m * up e ≤ n * down e → Cuttable (fin false m e)
unfolding lt
cuttable n m e N h =
    let w : n * down e < 2 ^ 64 * down e = mul-lt-mul_of_pos_right N (down_pos e) in
    (lt→ltb 0 (1 * 1 * down e + m * up e * 1) (omega (arith, down_pos e)), lt→ltb (m * up e * 1) (2 ^ 64 * down e) (omega arith))

-- a zero below zero
pub cuttable-zero : (m : ℕ) (e : ℤ) → m * up e ≡ 0 → Cuttable (fin true m e)
unfolding lt
cuttable-zero m e z = (lt→ltb (m * up e * 1) (1 * down e) (omega (arith, down_pos e)), lt→ltb 0 (m * up e * 1 + 2 ^ 64 * down e) (omega (arith, down_pos e)))

pub cut-le : (n m : ℕ) (e : ℤ) → m * up e ≤ n * down e → to_unsigned 64 (fin false m e) ≤ n
unfolding to_unsigned
cut-le n m e h = let q : m * up e / down e ≤ n = le_of_suc-le-suc ((div-lt_iff_lt-mul (down_pos e)).1 (omega (arith, down_pos e))) in omega arith

pub cut-zero : (m : ℕ) (e : ℤ) → m * up e ≡ 0 → to_unsigned 64 (fin false m e) ≡ 0
cut-zero m e z = let l : to_unsigned 64 (fin false m e) ≤ 0 = cut-le 0 m e (omega arith) in omega arith

-- ---- the side of zero
abbrev pub Zero : Float
Zero = of_bits binary64 0

pub below-zero : (m : ℕ) (e : ℤ) → lt (fin false m e) Zero ≡ true → ⊥
unfolding lt of_bits
below-zero m e h = omega (arith, ltb-true (m * up e * 1) (0 * 1 * down e) h)

pub not-below : (m : ℕ) (e : ℤ) → lt (fin true m e) Zero ≡ false → m * up e ≡ 0
unfolding lt of_bits
not-below m e h = omega (arith, ltb-false 0 (m * up e * 1 + 0 * 1 * down e) h)
