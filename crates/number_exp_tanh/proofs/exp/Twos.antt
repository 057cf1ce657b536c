-- The bits of a power of two. Assumes nothing.
use Rattle.std.proofs.Common.{◌≡◌, ℕ, zero, suc, ◌+◌, ◌-◌, ◌*◌, ◌/◌, ◌%◌, ◌^◌, ◌<◌, ◌≤◌, min, Bool, true, false, cond, not, T, eqb, ltb, leb, ◌⊎◌, ℤ, pos, negsuc, sym, refl, ap, ◌∙◌, subst, ap₂, inl, inr, true≢false, le_of_suc-le-suc, lt_of_le_of_lt, lt_irrefl, mod-eq_of_lt, div-lt_iff_lt-mul, mul-lt-mul_of_pos_right, mul-one, mul-div_cancel, arith, lit<, lit≤, lt→ltb, ltb-false, ltb-true, ne_eqb, le-leb}
use native.Mathlib.Nat.{mul-mod_left}
use borrow.Author.Tests.{lt-leb, eqb-false}
use lib.Count.{count_trailing_zeros}
use lib.Ieee.{Float, nan, inf, fin, binary64, up, down, minus, neg, lt, odd, of_fields, of_bits, nan_bits, is_nan, to_unsigned, hid, top, ones}
use lib.Ieee.Bits.{nan_bits_is}
use lib.Ieee.Fits.{down_pos}
use Rattle.number_floats.proofs.Ways.{lt-or-ge}
use Rattle.number_floats.specs.inner.Bounds.{AtMost}
use Rattle.number_floats.proofs.whole.Cuts.{Cuttable, Zero, cuttable, cuttable-zero, cut-le, cut-zero, below-zero, not-below}

-- ---- a difference
pub minus-same : (a b c d : ℕ) → a + d ≡ c + b → minus a b ≡ minus c d
minus-same a b c d e = elim (lt-or-ge a b) [
  | inl l ↦
      let l' : c < d = omega arith in
      let x : b - suc a ≡ d - suc c = omega arith in
      ap (λ (t : Bool). cond t (pos (a - b)) (negsuc (b - suc a))) (lt-leb b a l)
      ∙ ap negsuc x
      ∙ sym (ap (λ (t : Bool). cond t (pos (c - d)) (negsuc (d - suc c))) (lt-leb d c l'))
  | inr g ↦
      let g' : d ≤ c = omega arith in
      let x : a - b ≡ c - d = omega arith in
      ap (λ (t : Bool). cond t (pos (a - b)) (negsuc (b - suc a))) (le-leb b a g)
      ∙ ap pos x
      ∙ sym (ap (λ (t : Bool). cond t (pos (c - d)) (negsuc (d - suc c))) (le-leb d c g'))
]

-- ---- the bits with the field n and no digits
at_field : (n : ℕ) → 1 ≤ n → n ≤ 2046 → of_fields binary64 false n 0 ≡ fin false 1 (minus n 1023)
unfolding of_fields odd count_trailing_zeros
at_field zero p l = absurd (lt_irrefl 0 p)
at_field (suc x) p l =
    ap (λ (t : Bool). cond t (inf false) (odd 53 false (2 ^ 52) x 1074)) (ne_eqb (suc x) 2047 (λ e. omega arith))
    ∙ ap (λ (z : ℤ). fin false 1 z) (minus-same (x + 52) 1074 (suc x) 1023 (omega arith))

pub power-bits : (n : ℕ) → 1 ≤ n → n ≤ 2046 → of_bits binary64 (n * 2 ^ 52 % 2 ^ 64) ≡ fin false 1 (minus n 1023)
unfolding of_bits
power-bits n p l =
    let b = n * 2 ^ 52 in
    let b-is : b % 2 ^ 64 ≡ b = mod-eq_of_lt (omega arith) in
    let s-is : leb (2 ^ 63) b ≡ false = lt-leb (2 ^ 63) b (omega arith) in
    let x-is : b % 2 ^ 63 / 2 ^ 52 ≡ n = ap (λ (z : ℕ). z / 2 ^ 52) (mod-eq_of_lt (omega arith)) ∙ mul-div_cancel n (lit< tt) in
    let t-is : b % 2 ^ 52 ≡ 0 = mul-mod_left n (2 ^ 52) in
    ap (λ (z : ℕ). of_fields binary64 (leb (2 ^ 63) z) (z % 2 ^ 63 / 2 ^ 52) (z % 2 ^ 52)) b-is
    ∙ ap (λ (s : Bool). of_fields binary64 s (b % 2 ^ 63 / 2 ^ 52) (b % 2 ^ 52)) s-is
    ∙ ap₂ (of_fields binary64 false) x-is t-is
    ∙ at_field n p l

pub power-no-nan : (n : ℕ) → 1 ≤ n → n ≤ 2046 → T (not (nan_bits binary64 (n * 2 ^ 52 % 2 ^ 64)))
unfolding is_nan
power-no-nan n p l = subst (λ (t : Bool). T (not t)) (sym (nan_bits_is binary64 (n * 2 ^ 52 % 2 ^ 64) ∙ ap is_nan (power-bits n p l))) tt

-- ---- k below zero, and not
pub under : (k : Float) → lt k Zero ≡ true → AtMost 1000 k → Cuttable (neg k) × (to_unsigned 64 (neg k) ≤ 1000) × (minus (1023 - to_unsigned 64 (neg k)) 1023 ≡ minus (to_unsigned 64 k) (to_unsigned 64 (neg k)))
unfolding neg to_unsigned
under nan h a = absurd a
under (inf s) h a = absurd a
under (fin false m e) h a = absurd (below-zero m e h)
under (fin true m e) h a =
    let l : to_unsigned 64 (fin false m e) ≤ 1000 = cut-le 1000 m e a in
    (cuttable 1000 m e (lit< tt) a, l, minus-same (1023 - to_unsigned 64 (fin false m e)) 1023 0 (to_unsigned 64 (fin false m e)) (difference (to_unsigned 64 (fin false m e)) l))
  where
    difference : (n : ℕ) → n ≤ 1000 → 1023 - n + n ≡ 0 + 1023
    difference n h = omega arith

pub over : (k : Float) → lt k Zero ≡ false → AtMost 1000 k → Cuttable k × (to_unsigned 64 k ≤ 1000) × (minus (1023 + to_unsigned 64 k) 1023 ≡ minus (to_unsigned 64 k) (to_unsigned 64 (neg k)))
unfolding neg to_unsigned
over nan h a = absurd a
over (inf s) h a = absurd a
over (fin false m e) h a = (cuttable 1000 m e (lit< tt) a, cut-le 1000 m e a, minus-same (1023 + to_unsigned 64 (fin false m e)) 1023 (to_unsigned 64 (fin false m e)) 0 (total (to_unsigned 64 (fin false m e))))
  where
    total : (n : ℕ) → 1023 + n + 0 ≡ n + 1023
    total n = omega arith
over (fin true m e) h a =
    let z : m * up e ≡ 0 = not-below m e h in
    (cuttable-zero m e z, lit≤ tt, sym (ap (minus 0) (cut-zero m e z)))
