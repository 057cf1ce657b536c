-- The fields of a half's f32: how far a subnormal mantissa is shifted, and that no field runs into another. Assumes nothing.
use Rattle.std.proofs.Common.{◌≡◌, ℕ, suc, ◌+◌, ◌-◌, ◌*◌, ◌%◌, ◌^◌, ◌<◌, ◌≤◌, sym, ap, ◌∙◌, subst, ap₂, inl, inr, le_trans, le_of_eq, lt_of_le_of_lt, mul-le-mul_right, mod-eq_of_lt, not-le_of_lt, arith, lit<, pow_mono, pow-add, shl_lt, eq-eqb, ne_eqb}
use lib.Bits.{bit_or, or_shifted}
use lib.Count.{count_leading_zeros, leading_top}
use Rattle.number_bf16_half_root.specs.Half.{subnormal, half_size}
use Rattle.number_floats.proofs.Ways.{lt-or-ge}

-- ---- the shift
lt-of-pow : (a b : ℕ) → 2 ^ a < 2 ^ b → a < b
lt-of-pow a b h = elim (lt-or-ge a b) [ inl l ↦ l | inr g ↦ absurd (not-le_of_lt h (pow_mono g)) ]

-- a mantissa above 0 has z leading zeros, more than 21 and fewer than 32; shifted by those past 21 it has 11 digits
pub record Shifted (m z : ℕ) : Type 0 where
  pub least : 21 < z
  pub most : z < 32
  pub lo : 2 ^ 10 ≤ m * 2 ^ (z - 21)
  pub hi : m * 2 ^ (z - 21) < 2 ^ 11

pub shifted : (m : ℕ) → 0 < m → m < 2 ^ 10 → Shifted m (count_leading_zeros 32 m)
shifted m p l = let t = leading_top 32 m p (omega arith) in at (count_leading_zeros 32 m) t.0 t.1 t.2 t.3
  where
    at : (z j : ℕ) → z + suc j ≡ 32 → 2 ^ j ≤ m → m < 2 ^ suc j → Shifted m z
    at z j e lo hi =
        let b : j < 10 = lt-of-pow j 10 (lt_of_le_of_lt lo l) in
        let d : 10 ≡ j + (z - 21) = omega arith in
        let u : suc j + (z - 21) ≡ 11 = omega arith in
        record {
          least = omega arith;
          most = omega arith;
          lo = le_trans (le_of_eq (ap (λ (x : ℕ). 2 ^ x) d ∙ pow-add 2 j (z - 21))) (mul-le-mul_right (2 ^ (z - 21)) lo);
          hi = subst (λ (x : ℕ). m * 2 ^ (z - 21) < 2 ^ x) u (shl_lt (suc j) (z - 21) hi);
        }

-- what the definition gives above 0
pub subnormal-is : (m : ℕ) → 0 < m → let s = count_leading_zeros 32 m - 21 in subnormal m ≡ (113 - s) * 2 ^ 23 + m * 2 ^ s % 2 ^ 10 * 2 ^ 13
unfolding subnormal
subnormal-is m p = simp (ne_eqb m 0 (λ z. omega arith))

-- ---- the fields put together: the exponent k and the digits t
pub joined : (k t : ℕ) → k < 2 ^ 9 → t < 2 ^ 10 → bit_or (k * 2 ^ 23 % 2 ^ 32) (t * 2 ^ 13 % 2 ^ 32) ≡ k * 2 ^ 23 + t * 2 ^ 13
joined k t hk ht =
    let a : k * 2 ^ 23 % 2 ^ 32 ≡ k * 2 ^ 23 = mod-eq_of_lt (omega arith) in
    let b : t * 2 ^ 13 % 2 ^ 32 ≡ t * 2 ^ 13 = mod-eq_of_lt (omega arith) in
    ap₂ bit_or a b ∙ or_shifted k 23 (t * 2 ^ 13) (omega arith)

-- ---- the cases of the definition
module _ (e m : ℕ) where
  pub at-subnormal : e ≡ 0 → half_size e m ≡ subnormal m
  unfolding half_size
  at-subnormal z = simp (eq-eqb e 0 z)

  pub at-special : e ≡ 31 → half_size e m ≡ 255 * 2 ^ 23 + m * 2 ^ 13
  unfolding half_size
  at-special z = simp (ne_eqb e 0 (λ q. omega arith), eq-eqb e 31 z)

  pub at-normal : (e ≡ 0 → ⊥) → (e ≡ 31 → ⊥) → half_size e m ≡ (e + 127 - 15) * 2 ^ 23 + m * 2 ^ 13
  unfolding half_size
  at-normal p q = simp (ne_eqb e 0 p, ne_eqb e 31 q)

subnormal-lt : (m : ℕ) → subnormal m < 2 ^ 31
subnormal-lt m = elim (lt-or-ge 0 m) [
  | inl p ↦ let s = count_leading_zeros 32 m - 21 in let b : (113 - s) * 2 ^ 23 + m * 2 ^ s % 2 ^ 10 * 2 ^ 13 < 2 ^ 31 = omega arith in subst (λ (x : ℕ). x < 2 ^ 31) (sym (subnormal-is m p)) b
  | inr g ↦ let z : m ≡ 0 = omega arith in subst (λ (x : ℕ). subnormal x < 2 ^ 31) (sym z) (unfold subnormal in lit< tt)
]

-- below the sign
pub half-size-lt : (e m : ℕ) → e < 2 ^ 5 → m < 2 ^ 10 → half_size e m < 2 ^ 31
half-size-lt e m h l = elim (lt-or-ge 0 e) [
  | inr g ↦ subst (λ (x : ℕ). x < 2 ^ 31) (sym (at-subnormal e m (omega arith))) (subnormal-lt m)
  | inl p ↦ elim (lt-or-ge e 31) [
    | inl q ↦ let b : (e + 127 - 15) * 2 ^ 23 + m * 2 ^ 13 < 2 ^ 31 = omega arith in subst (λ (x : ℕ). x < 2 ^ 31) (sym (at-normal e m (λ z. omega arith) (λ z. omega arith))) b
    | inr q ↦ let b : 255 * 2 ^ 23 + m * 2 ^ 13 < 2 ^ 31 = omega arith in subst (λ (x : ℕ). x < 2 ^ 31) (sym (at-special e m (omega arith))) b
  ]
]
