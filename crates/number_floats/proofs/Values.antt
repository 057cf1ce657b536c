-- The number that a pattern stands for is the one that `count` says, in units of the format's smallest; and the way back. Assumes nothing.
use Rattle.std.proofs.Common.{◌≡◌, ℕ, zero, suc, ◌+◌, ◌-◌, ◌*◌, ◌/◌, ◌%◌, ◌^◌, ◌<◌, Bool, cond, T, eqb, leb, sym, refl, ap, ◌∙◌, subst, ap₂, inl, inr, lt_irrefl, div-lt_iff_lt-mul, eq-or-lt_of_le, mul-one, mul-div_cancel, arith, pow_pos, ne_eqb, le-leb}
use native.Mathlib.Nat.{mod-mod_of_dvd, dvd-mul_right, eq_of_mul-eq-mul_right, div-eq_of_lt, mul-mod_left}
use borrow.Author.Tests.{lt-leb}
use lib.Arith.{digits_div}
use lib.Ieee.{Float, nan, inf, fin, Format, prec, low, up, down, hid, ones, top, odd, of_fields, of_bits, to_bits, fits}
use lib.Ieee.Fits.{down_pos}
use lib.Ieee.Bits.{of_bits-to_bits}
use lib.Ieee.Exact.{HasValue, odd_sign}
use Rattle.number_floats.specs.Size.{size_of, count}
use Rattle.number_floats.proofs.Ways.{lt-or-ge}
use Rattle.number_floats.proofs.Patterns.{nan-above}

-- ---- from a pattern to its number
fields_value : (f : Format) (s : Bool) (x t : ℕ) → x < ones f → HasValue (of_fields f s x t) s (size_of (hid f) x t) (2 ^ low f)
unfolding of_fields
fields_value f s zero t h = subst (λ (n : ℕ). HasValue (odd (prec f) s t 0 (low f)) s n (2 ^ low f)) (mul-one t) (odd_sign (prec f) s t 0 (low f))
fields_value f s (suc x) t h =
    subst (λ (v : Float). HasValue v s ((hid f + t) * 2 ^ x) (2 ^ low f))
    (sym (ap (λ (b : Bool). cond b (cond (eqb t 0) (inf s) nan) (odd (prec f) s (hid f + t) x (low f))) (ne_eqb (suc x) (ones f) (λ e. lt_irrefl (ones f) (subst (λ (n : ℕ). n < ones f) e h)))))
    (odd_sign (prec f) s (hid f + t) x (low f))

module _ (f : Format) (b : ℕ) where
  digits_same : b % top f % hid f ≡ b % hid f
  digits_same = mod-mod_of_dvd (hid f) b (dvd-mul_right (hid f) (suc (ones f)))

  pub number-of-bits : b % top f < ones f * hid f → HasValue (of_bits f b) (leb (top f) b) (count (hid f) (b % top f)) (2 ^ low f)
  unfolding of_bits
  number-of-bits h =
      subst (λ (t : ℕ). HasValue (of_fields f (leb (top f) b) (b % top f / hid f) t) (leb (top f) b) (count (hid f) (b % top f)) (2 ^ low f)) digits_same
      (fields_value f (leb (top f) b) (b % top f / hid f) (b % top f % hid f) ((div-lt_iff_lt-mul (pow_pos (prec f - 1))).1 h))

  pub infinity-of-bits : b % top f ≡ ones f * hid f → of_bits f b ≡ inf (leb (top f) b)
  unfolding of_bits of_fields
  infinity-of-bits h =
      ap₂ (of_fields f (leb (top f) b)) (ap (λ (n : ℕ). n / hid f) h ∙ mul-div_cancel (ones f) (pow_pos (prec f - 1))) (sym digits_same ∙ ap (λ (n : ℕ). n % hid f) h ∙ mul-mod_left (ones f) (hid f))
      ∙ at_top f
    where
      at_top : (f : Format) → of_fields f (leb (top f) b) (ones f) 0 ≡ inf (leb (top f) b)
      at_top lib.Ieee.binary32 = refl
      at_top lib.Ieee.binary64 = refl

-- ---- from a number to its pattern
value_same : (x : Float) (s t : Bool) (a b c : ℕ) → HasValue x s a c → HasValue x t b c → (s ≡ t) × (a ≡ b)
value_same nan s t a b c v w = absurd v
value_same (inf u) s t a b c v w = absurd v
value_same (fin u m e) s t a b c v w = (sym v.0 ∙ w.0, eq_of_mul-eq-mul_right (down e) (down_pos e) a b (sym v.1 ∙ w.1))

pub pattern-of-number : (f : Format) (x : Float) (s : Bool) (a : ℕ) → T (fits f x) → HasValue x s a (2 ^ low f)
    → (leb (top f) (to_bits f x) ≡ s) × (count (hid f) (to_bits f x % top f) ≡ a)
pattern-of-number f x s a h v =
    let b = to_bits f x in
    let back : of_bits f b ≡ x = of_bits-to_bits f x h in
    elim (lt-or-ge (b % top f) (ones f * hid f)) [
      | inl l ↦ value_same x (leb (top f) b) s (count (hid f) (b % top f)) a (2 ^ low f) (subst (λ (y : Float). HasValue y (leb (top f) b) (count (hid f) (b % top f)) (2 ^ low f)) back (number-of-bits f b l)) v
      | inr g ↦ elim (eq-or-lt_of_le g) [
        | inl e ↦ absurd (subst (λ (y : Float). HasValue y s a (2 ^ low f)) (sym back ∙ infinity-of-bits f b (sym e)) v)
        | inr l ↦ absurd (subst (λ (y : Float). HasValue y s a (2 ^ low f)) (sym back ∙ sym (nan-above f b l)) v)
      ]
    ]

-- the highest bit
pub sign_bit : (k n : ℕ) → n < 2 * 2 ^ k → n / 2 ^ k ≡ cond (leb (2 ^ k) n) 1 0
sign_bit k n h = elim (lt-or-ge n (2 ^ k)) [
  | inl l ↦ div-eq_of_lt l ∙ sym (ap (λ (t : Bool). cond t 1 0) (lt-leb (2 ^ k) n l))
  | inr g ↦
      let e : n ≡ 1 * 2 ^ k + (n - 2 ^ k) = omega arith in
      ap (λ (m : ℕ). m / 2 ^ k) e ∙ digits_div 1 {m = 2 ^ k} {r = n - 2 ^ k} (omega arith) ∙ sym (ap (λ (t : Bool). cond t 1 0) (le-leb (2 ^ k) n g))
]
