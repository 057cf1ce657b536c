-- A large f64 is whole. Assumes nothing.
use Rattle.std.proofs.Common.{◌≡◌, ℕ, zero, suc, ◌+◌, ◌-◌, ◌*◌, ◌/◌, ◌%◌, ◌^◌, ◌<◌, ◌≤◌, Bool, true, false, ◌&&◌, T, eqb, ltb, leb, ℤ, pos, negsuc, sym, refl, ap, ◌∙◌, subst, true≢false, le_trans, le_of_eq, lt_of_lt_of_le, add-zero, le_of_lt, mod-lt, zero-lt-suc, mul_assoc, div-lt_iff_lt-mul, lt_of_mul-lt-mul_right, div-add-mod', zero-mul, mul-one, mul_right_comm, le_of_mul-le-mul_right, div-one, arith, lit<, lit≤, ltb→lt, pow_mono, pow-add, shl_lt, ltb-false, ltb-true}
use native.Mathlib.Nat.{div-eq_of_lt, min-eq_left}
use lib.Arith.{digits_div}
use lib.Ieee.{Float, nan, inf, fin, binary64, up, down, neg, lt, round, of_int, of_bits, to_unsigned, fits}
use lib.Ieee.Fits.{round-fits, down_pos, and_l, and_r}
use lib.Ieee.Exact.{HasValue, round_exact}
use lib.Ieee.Back.{round_whole, whole_unique}
use Rattle.number_floats.specs.Whole.{floor}
use Rattle.number_floats.proofs.Bound.{neg-round}
use Rattle.number_floats.proofs.whole.Cuts.{Zero, Cuttable, cuttable, below-zero, not-below}

-- ---- a whole number is what its size rounds to
pub whole_same : (s : Bool) (m : ℕ) (e : ℤ) (w : ℕ) → T (fits binary64 (fin s m e)) → m * up e ≡ w * down e → HasValue (round binary64 s w 1) s w 1 → fin s m e ≡ round binary64 s w 1
whole_same s m e w f h v = whole_unique binary64 (fin s m e) (round binary64 s w 1) s w f (round-fits binary64 s w 1) (refl, mul-one (m * up e) ∙ h) v

-- what `fits` says of the digits and of the size
module _ (s : Bool) (m : ℕ) (e : ℤ) (f : T (fits binary64 (fin s (suc m) e))) where
  abbrev A : Bool
  A = eqb (suc m % 2) 1

  abbrev B : Bool
  B = ltb (suc m) (2 ^ 53)

  abbrev C : Bool
  C = leb (down e) (2 ^ 1074)

  abbrev D : Bool
  D = ltb (suc m * up e) (2 ^ 1024 * down e)

  pub digits_lt : suc m < 2 ^ 53
  unfolding fits
  digits_lt = ltb→lt (suc m) (2 ^ 53) (and_r A B (and_l (A && B) C (and_l (A && B && C) D f)))

  size-lt : suc m * up e < 2 ^ 1024 * down e
  unfolding fits
  size-lt = ltb→lt (suc m * up e) (2 ^ 1024 * down e) (and_r (A && B && C) D f)

-- at 2 ^ 52 and above every f64 is whole
pub large : (s : Bool) (m : ℕ) (e : ℤ) → T (fits binary64 (fin s m e)) → 2 ^ 52 * down e ≤ m * up e → (down e ≡ 1) × (fin s m e ≡ round binary64 s (m * up e) 1)
large s zero e f h = absurd (let z : 0 * up e ≡ 0 = zero-mul (up e) in omega (arith, down_pos e))
large s (suc m) (negsuc k) f h =
    let b : suc m < 2 ^ 53 = digits_lt s m (negsuc k) f in
    let p : 2 ^ 1 ≤ 2 ^ suc k = pow_mono {i = 1} {j = suc k} (omega arith) in
    absurd (omega arith)
large s (suc m) (pos j) f h =
    let e : suc m * 2 ^ j * 2 ^ 1074 ≡ suc m * 2 ^ (j + 1074) = mul_assoc (suc m) (2 ^ j) (2 ^ 1074) ∙ ap (λ (z : ℕ). suc m * z) (sym (pow-add 2 j 1074)) in
    let l : suc m * 2 ^ j < 2 ^ 1024 = lt_of_lt_of_le (size-lt s m (pos j) f) (le_of_eq (mul-one (2 ^ 1024))) in (
      refl,
      whole_same s (suc m) (pos j) (suc m * 2 ^ j) f (sym (mul-one (suc m * 2 ^ j)))
          (round_exact binary64 s (suc m * 2 ^ j) 1 (suc m) (j + 1074) (zero-lt-suc 0) (digits_lt s m (pos j) f)
          (subst (λ (z : ℕ). z < 2 ^ (1024 + 1074)) e (shl_lt 1024 1074 l))
          (e ∙ sym (mul-one (suc m * 2 ^ (j + 1074))))),
    )
