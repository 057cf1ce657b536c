-- Narrowing, which is `lib.Ieee`'s `round binary32`, meets the statement over integers; and one f32 alone does. Assumes nothing.
use Rattle.std.proofs.Common.{◌≡◌, ℕ, ◌+◌, ◌-◌, ◌*◌, ◌/◌, ◌%◌, ◌^◌, ◌<◌, ◌≤◌, Bool, true, false, cond, T, leb, ◌⊎◌, ℤ, sym, refl, ap, ◌∙◌, subst, ap₂, inl, inr, le_trans, le_of_eq, le_of_lt, mul_assoc, eq-or-lt_of_le, mul-pos, div-add-mod', le-div_iff_mul-le, mul-one, not-le_of_lt, arith, lit<, lit≤, pow_pos, pow-add, shr-shr, le-ltb}
use Prim.Native.Nat.{compare}
use lib.Ieee.{Float, nan, inf, fin, binary32, binary64, up, down, size, odd, units, round, of_bits, to_bits, fits}
use lib.Ieee.Bits.{of_bits-to_bits, to_bits-lt}
use lib.Ieee.Digits.{size_reaches}
use lib.Ieee.Exact.{HasValue, units_val}
use lib.Ieee.Fits.{down_pos, nan-fits, inf-fits, round_is, round-fits, kept-lt, nearest-le}
use lib.Ieee.Nearest.{closest, closest_same, div_same, nearest-ge}
use Rattle.number_floats.specs.Size.{count, size32, size64, Nearest}
use Rattle.number_floats.specs.Narrow as S
use Rattle.number_floats.specs.Narrow.{Narrowed}
use Rattle.number_floats.proofs.Ways.{lt-or-ge}
use Rattle.number_floats.proofs.Sizes.{grows, size_same, at-kept}
use Rattle.number_floats.proofs.Patterns.{nan-above}
use Rattle.number_floats.proofs.Values.{number-of-bits, infinity-of-bits, pattern-of-number, sign_bit}
use Rattle.number_floats.proofs.narrow.Pick.{weakly, at_top, unique}
use Rattle.number_floats.proofs.narrow.Core.{sized-grows, rounded}

abbrev top : ℕ
top = 0x7F80_0000

-- ---- narrowing is `round binary32`, by definition
pub narrow-round : (s : Bool) (m : ℕ) (e : ℤ) → S.narrow (fin s m e) ≡ round binary32 s (m * up e) (down e)
unfolding S.narrow
narrow-round s m e = refl

-- ---- what `round` keeps of u units of 2 ^ -1074: q of 24 digits, k dropped
module _ (u : ℕ) where
  abbrev w : ℕ
  w = u / 2 ^ 925

  abbrev k : ℕ
  k = size w - 24

  abbrev q : ℕ
  q = closest u (2 ^ (925 + k))

  kept-is : w / 2 ^ k ≡ u / 2 ^ (925 + k)
  kept-is = shr-shr u 925 k

  small : u / 2 ^ (925 + k) < 2 ^ 24
  small = subst (λ (n : ℕ). n < 2 ^ 24) kept-is (kept-lt 24 w)

  normal : (k ≡ 0) ⊎ (2 ^ 23 ≤ u / 2 ^ (925 + k))
  normal = elim (lt-or-ge 0 k) [
    | inl p ↦ inr (subst (λ (n : ℕ). 2 ^ 23 ≤ n) kept-is ((le-div_iff_mul-le (pow_pos k)).1 (subst (λ (n : ℕ). n ≤ w) (pow-add 2 23 k) (size_reaches w (23 + k) (omega arith)))))
    | inr g ↦ inl (omega arith)
  ]

  fits_in : q ≤ 2 ^ 24
  fits_in = le_trans (nearest-le (u / 2 ^ (925 + k)) (compare (u % 2 ^ (925 + k) * 2) (2 ^ (925 + k)))) small

  reaches : (k ≡ 0) ⊎ (2 ^ 23 ≤ u / 2 ^ (925 + k)) → (k ≡ 0) ⊎ (2 ^ 23 ≤ q)
  reaches (inl e) = inl e
  reaches (inr h) = inr (le_trans h (nearest-ge (u / 2 ^ (925 + k)) (compare (u % 2 ^ (925 + k) * 2) (2 ^ (925 + k)))))

  abbrev r₀ : ℕ
  r₀ = k * 2 ^ 23 + q

  size_is : count (2 ^ 23) r₀ ≡ q * 2 ^ k
  size_is = at-kept (2 ^ 23) k q (lit< tt) (reaches normal) fits_in

  answer : (r₀ ≤ top → Nearest size32 top u r₀) × (top ≤ r₀ → Nearest size32 top u top)
  answer =
      let fit : 925 + k + 0 ≡ k + 925 = omega arith in
      subst (λ (v : ℕ). (r₀ ≤ top → Nearest size32 top v r₀) × (top ≤ r₀ → Nearest size32 top v top)) (mul-one u)
      (rounded top 925 u 0 (925 + k) k fit small normal)

  -- `round`, of a fraction of that size
  module _ (num den : ℕ) (D : 0 < den) (same : num * 2 ^ 1074 ≡ u * den) where
    in-units : num * 2 ^ 149 * 2 ^ 925 ≡ u * den
    in-units = mul_assoc num (2 ^ 149) (2 ^ 925) ∙ same

    cross : num * 2 ^ 149 * 2 ^ (925 + k) ≡ u * (den * 2 ^ k)
    cross = ap (λ (n : ℕ). num * 2 ^ 149 * n) (pow-add 2 925 k) ∙ sym (mul_assoc (num * 2 ^ 149) (2 ^ 925) (2 ^ k)) ∙ ap (λ (n : ℕ). n * 2 ^ k) in-units ∙ mul_assoc u den (2 ^ k)

    whole_is : num * 2 ^ 149 / den ≡ w
    whole_is = div_same (num * 2 ^ 149) den u (2 ^ 925) D (pow_pos 925) in-units

    round-as : (s : Bool) → round binary32 s num den ≡ units binary32 s q k
    round-as s =
        round_is binary32 s num den
        ∙ ap (λ (n : ℕ). units binary32 s (closest (num * 2 ^ 149) (den * 2 ^ (size n - 24))) (size n - 24)) whole_is
        ∙ ap (λ (n : ℕ). units binary32 s n k) (closest_same (num * 2 ^ 149) (den * 2 ^ k) u (2 ^ (925 + k)) (mul-pos D (pow_pos k)) (pow_pos (925 + k)) cross)

    abbrev Answer : Bool → ℕ → Type 0
    Answer s r = (leb (2 ^ 31) r ≡ s) × Nearest size32 top u (r % 2 ^ 31)

    finite : (s : Bool) → q * 2 ^ k < 2 ^ 277 → Answer s (to_bits binary32 (round binary32 s num den))
    finite s h =
        let x = round binary32 s num den in
        let v : HasValue x s (q * 2 ^ k) (2 ^ 149) = subst (λ (z : Float). HasValue z s (q * 2 ^ k) (2 ^ 149)) (sym (round-as s)) (units_val binary32 s q k h) in
        let p = pattern-of-number binary32 x s (q * 2 ^ k) (round-fits binary32 s num den) v in
        let r-is : r₀ ≡ to_bits binary32 x % 2 ^ 31 = size_same (2 ^ 23) (lit< tt) r₀ (to_bits binary32 x % 2 ^ 31) (size_is ∙ sym p.1) in
        let l : r₀ ≤ top = elim (lt-or-ge r₀ top) [ inl m ↦ le_of_lt m | inr g ↦ absurd (not-le_of_lt h (le_trans (weakly (count (2 ^ 23)) (grows (2 ^ 23) (lit< tt)) top r₀ g) (le_of_eq size_is))) ] in
        (p.0, subst (Nearest size32 top u) r-is (answer.0 l))

    to-inf : (s : Bool) → 2 ^ 277 ≤ q * 2 ^ k → units binary32 s q k ≡ inf s
    unfolding units
    to-inf s h = ap (λ (t : Bool). cond t (odd 25 s q k 149) (inf s)) (le-ltb (q * 2 ^ k) (2 ^ 277) h)

    at-inf : (s : Bool) → Nearest size32 top u top → Answer s (to_bits binary32 (inf s))
    unfolding to_bits
    at-inf true n = (refl, n)
    at-inf false n = (refl, n)

    infinite : (s : Bool) → 2 ^ 277 ≤ q * 2 ^ k → Answer s (to_bits binary32 (round binary32 s num den))
    infinite s h =
        let over : top ≤ r₀ = elim (lt-or-ge r₀ top) [ inl m ↦ absurd (not-le_of_lt (grows (2 ^ 23) (lit< tt) r₀ top m) (le_trans h (le_of_eq (sym size_is)))) | inr g ↦ g ] in
        subst (λ (x : Float). Answer s (to_bits binary32 x)) (sym (round-as s ∙ to-inf s h)) (at-inf s (answer.1 over))

    nearest-round : (s : Bool) → Answer s (to_bits binary32 (round binary32 s num den))
    nearest-round s = elim (lt-or-ge (q * 2 ^ k) (2 ^ 277)) [ inl l ↦ finite s l | inr g ↦ infinite s g ]

-- ---- of a pattern
inf-pattern : (s : Bool) → (to_bits binary32 (inf s) / 2 ^ 31 ≡ cond s 1 0) × (to_bits binary32 (inf s) % 2 ^ 31 ≡ top)
unfolding to_bits
inf-pattern true = (refl, refl)
inf-pattern false = (refl, refl)

pub narrow-fits : (x : Float) → T (fits binary32 (S.narrow x))
unfolding S.narrow
narrow-fits nan = nan-fits binary32
narrow-fits (inf s) = inf-fits binary32 s
narrow-fits (fin s m e) = round-fits binary32 s (m * up e) (down e)

-- to the pattern and back is the float itself
pub there_and_back : (x : Float) → T (fits binary64 x) → of_bits binary32 (S.narrow_bits (to_bits binary64 x)) ≡ S.narrow x
unfolding S.narrow_bits
there_and_back x h = ap (λ (y : Float). of_bits binary32 (to_bits binary32 (S.narrow y))) (of_bits-to_bits binary64 x h) ∙ of_bits-to_bits binary32 (S.narrow x) (narrow-fits x)

of_number : (x : Float) (s : Bool) (u : ℕ) → HasValue x s u (2 ^ 1074) → (leb (2 ^ 31) (to_bits binary32 (S.narrow x)) ≡ s) × Nearest size32 top u (to_bits binary32 (S.narrow x) % 2 ^ 31)
unfolding S.narrow
of_number nan s u v = absurd v
of_number (inf t) s u v = absurd v
of_number (fin t m e) s u v =
    subst (λ (b : Bool). (leb (2 ^ 31) (to_bits binary32 (round binary32 t (m * up e) (down e))) ≡ b) × Nearest size32 top u (to_bits binary32 (round binary32 t (m * up e) (down e)) % 2 ^ 31)) v.0
    (nearest-round u (m * up e) (down e) (down_pos e) v.1 t)

module _ (b : ℕ) (B : b < 2 ^ 64) where
  abbrev a : ℕ
  a = b % 2 ^ 63

  abbrev r : ℕ
  r = to_bits binary32 (S.narrow (of_bits binary64 b))

  -- the sign's bit of the f32 is that of the f64
  signed : r < 2 * 2 ^ 31 → leb (2 ^ 31) r ≡ leb (2 ^ 63) b → r / 2 ^ 31 ≡ b / 2 ^ 63
  signed l e = sign_bit 31 r l ∙ ap (λ (t : Bool). cond t 1 0) e ∙ sym (sign_bit 63 b B)

  finite-meets : a < 0x7FF0_0000_0000_0000 → (r / 2 ^ 31 ≡ b / 2 ^ 63) × Nearest size32 top (size64 a) (r % 2 ^ 31)
  finite-meets l =
      let p = of_number (of_bits binary64 b) (leb (2 ^ 63) b) (size64 a) (number-of-bits binary64 b l) in
      (signed (to_bits-lt binary32 (S.narrow (of_bits binary64 b)) (narrow-fits (of_bits binary64 b))) p.0, p.1)

  infinite-is : a ≡ 0x7FF0_0000_0000_0000 → r ≡ to_bits binary32 (inf (leb (2 ^ 63) b))
  unfolding S.narrow
  infinite-is e = ap (λ (x : Float). to_bits binary32 (S.narrow x)) (infinity-of-bits binary64 b e)

  infinite-meets : a ≡ 0x7FF0_0000_0000_0000 → (r / 2 ^ 31 ≡ b / 2 ^ 63) × (r % 2 ^ 31 ≡ top)
  infinite-meets e =
      let i = inf-pattern (leb (2 ^ 63) b) in
      (ap (λ (n : ℕ). n / 2 ^ 31) (infinite-is e) ∙ i.0 ∙ sym (sign_bit 63 b B), ap (λ (n : ℕ). n % 2 ^ 31) (infinite-is e) ∙ i.1)

  nan-meets : 0x7FF0_0000_0000_0000 < a → r ≡ 0x7FC0_0000
  unfolding S.narrow to_bits
  nan-meets h = sym (ap (λ (x : Float). to_bits binary32 (S.narrow x)) (nan-above binary64 b h))

  pub narrow-meets : Narrowed b (S.narrow_bits b)
  unfolding S.narrow_bits
  narrow-meets = record {
    nan = nan-meets;
    sign = λ l. elim (eq-or-lt_of_le l) [ inl e ↦ (infinite-meets e).0 | inr g ↦ (finite-meets g).0 ];
    near = λ l. elim (eq-or-lt_of_le l) [
      | inl e ↦ subst (Nearest size32 top (size64 a)) (sym (infinite-meets e).1) (at_top size32 (sized-grows 925) top (size64 a) (subst (λ (n : ℕ). size32 top ≤ size64 n) (sym e) (lit≤ tt)))
      | inr g ↦ (finite-meets g).1
    ];
    infinite = λ e. (infinite-meets e).1;
  }

-- ---- one f32 alone meets the statement
pub narrowed-unique : (b r s : ℕ) → Narrowed b r → Narrowed b s → r ≡ s
narrowed-unique b r s p q = elim (lt-or-ge 0x7FF0_0000_0000_0000 (b % 2 ^ 63)) [
  | inl n ↦ p.nan n ∙ sym (q.nan n)
  | inr l ↦
      sym (div-add-mod' r (2 ^ 31))
      ∙ ap₂ (λ (x y : ℕ). x * 2 ^ 31 + y) (p.sign l ∙ sym (q.sign l)) (unique size32 (sized-grows 925) 0x7F80_0000 (size64 (b % 2 ^ 63)) (r % 2 ^ 31) (s % 2 ^ 31) (p.near l) (q.near l))
      ∙ div-add-mod' s (2 ^ 31)
]
