-- From 2 ^ -126 to 2 ^ 128 an f64 is narrowed by its pattern alone: half of the unit, less one where the digit before it is
-- even, is added, and 29 digits are cut off. Assumes nothing.
use mathlib.Core.Path.{◌≡◌, refl, sym, ap, ap₂, ◌∙◌, subst}
use mathlib.Core.Logic.{inl, inr}
use mathlib.Core.Bool.{Bool, true, false, not}
use Prim.Native.Nat.{ℕ, suc, ◌+◌, ◌-◌, ◌*◌, ◌/◌, ◌%◌, ◌^◌, ◌≤◌, ◌<◌}
use native.Mathlib.Nat.{mod-lt, mod-eq_of_lt, div-add-mod', eq-or-lt_of_le, not-le_of_lt, le_of_mul-le-mul_right}
use native.Mathlib.Omega.{arith}
use lib.Bits.{bit_and, and_mask}
use lib.Dec.{T, leb, lit<}
use lib.Pow.{pow_pos}
use lib.Ieee.{Float, nan, inf, fin, binary32, binary64, fits, nearest, le, nan_bits, of_bits, to_bits, size, odd, of_fields}
use lib.Ieee.Bits.{of_bits-to_bits, of_bits-fits}
use lib.Ieee.Exact.{HasValue}
use lib.Ieee.Nearest.{closest}
use lib.Ieee.Positive.{positive, values_of_le, between}
use Rattle.number_floats.specs.Size.{size32, size64, Nearest}
use Rattle.number_floats.specs.Narrow.{narrow_bits, Narrowed}
use Rattle.number_floats.proofs.Ways.{lt-or-ge, compare-lt, compare-eq, compare-gt}
use Rattle.number_floats.proofs.Sizes.{grows}
use Rattle.number_floats.proofs.Patterns.{nan-above, no-nan-upto}
use Rattle.number_floats.proofs.Values.{number-of-bits, infinity-of-bits}
use Rattle.number_floats.proofs.narrow.Wide.{m, top, m-is, wide}
use Rattle.number_floats.proofs.narrow.Meets.{narrow-meets, narrowed-unique}
use Rattle.number_exp_lanes.specs.inner.Near.{normal}
use Rattle.buffers.proofs.Lists.{and_left, and_right}
use Rattle.number_floats.proofs.whole.Closest.{below_top}

-- ---- patterns of numbers above zero are in the numbers' order
no_sign : (v : Float) (s : Bool) (a c : ℕ) → T (positive v) → HasValue v s a c → s ≡ false
no_sign nan s a c p h = absurd p
no_sign (inf t) s a c p h = absurd p
no_sign (fin true m e) s a c p h = absurd p
no_sign (fin false m e) s a c p h = sym h.0

abbrev infinity : ℕ
infinity = 0x7FF0_0000_0000_0000

pattern : (v : Float) → T (fits binary64 v) → T (positive v) → (to_bits binary64 v < infinity) × HasValue v false (size64 (to_bits binary64 v)) (2 ^ 1074)
pattern v f p =
    let b = to_bits binary64 v in
    let back : of_bits binary64 b ≡ v = of_bits-to_bits binary64 v f in
    elim (lt-or-ge (b % 2 ^ 63) infinity) [
      | inl l ↦
          let h : HasValue v (leb (2 ^ 63) b) (size64 (b % 2 ^ 63)) (2 ^ 1074) = subst (λ (z : Float). HasValue z (leb (2 ^ 63) b) (size64 (b % 2 ^ 63)) (2 ^ 1074)) back (number-of-bits binary64 b l) in
          let s : leb (2 ^ 63) b ≡ false = no_sign v (leb (2 ^ 63) b) (size64 (b % 2 ^ 63)) (2 ^ 1074) p h in
          let e : b % 2 ^ 63 ≡ b = mod-eq_of_lt (below_top b s) in
          (subst (λ (n : ℕ). n < infinity) e l, subst (λ (n : ℕ). HasValue v false (size64 n) (2 ^ 1074)) e (subst (λ (t : Bool). HasValue v t (size64 (b % 2 ^ 63)) (2 ^ 1074)) s h))
      | inr g ↦ elim (eq-or-lt_of_le g) [
        | inl e ↦ absurd (subst (λ (z : Float). T (positive z)) (sym back ∙ infinity-of-bits binary64 b (sym e)) p)
        | inr l ↦ absurd (subst (λ (z : Float). T (positive z)) (sym back ∙ sym (nan-above binary64 b l)) p)
      ]
    ]

in_order : (x y : Float) → T (fits binary64 x) → T (fits binary64 y) → T (positive x) → T (positive y) → T (le x y) → to_bits binary64 x ≤ to_bits binary64 y
in_order x y f g p q h =
    let a = to_bits binary64 x in
    let b = to_bits binary64 y in
    elim (lt-or-ge b a) [
      | inl l ↦
          absurd (not-le_of_lt (grows (2 ^ 52) (lit< tt) b a l)
          (le_of_mul-le-mul_right (values_of_le x y (size64 a) (2 ^ 1074) (size64 b) (2 ^ 1074) p q (pattern x f p).1 (pattern y g q).1 h) (pow_pos 1074)))
      | inr r ↦ r
    ]

abbrev least : Float
least = of_bits binary64 0x3810_0000_0000_0000

abbrev most : Float
most = of_bits binary64 0x47F0_0000_0000_0000

ends : (to_bits binary64 least ≡ 897 * 2 ^ 52) × (to_bits binary64 most ≡ 1151 * 2 ^ 52) × T (positive least) × T (positive most)
unfolding to_bits of_bits size odd of_fields
ends = (refl, refl, tt, tt)

module _ (v : Float) (f : T (fits binary64 v)) (h : normal v ≡ true) where
  low-le : T (le least v)
  low-le = subst T (sym (and_left (le least v) (le v most) h)) tt

  high_le : T (le v most)
  high_le = subst T (sym (and_right (le least v) (le v most) h)) tt

  pub above_zero : T (positive v)
  above_zero = between least v most ends.2 ends.3 low-le high_le

  pub from-least : 897 * 2 ^ 52 ≤ to_bits binary64 v
  from-least = subst (λ (n : ℕ). n ≤ to_bits binary64 v) ends.0 (in_order least v (of_bits-fits binary64 _) f ends.2 above_zero low-le)

  pub to-most : to_bits binary64 v ≤ 1151 * 2 ^ 52
  to-most = subst (λ (n : ℕ). to_bits binary64 v ≤ n) ends.1 (in_order v most f (of_bits-fits binary64 _) above_zero ends.3 high_le)

-- ---- 29 digits cut off
-- the digit that decides a tie
abbrev pub place : ℕ
place = 29

half_up : (n : ℕ) → (n + 0x0FFF_FFFF + n / 2 ^ place % 2) / 2 ^ 29 ≡ closest n (2 ^ 29)
half_up n = elim (lt-or-ge (n % 2 ^ 29 * 2) (2 ^ 29)) [
  | inl l ↦ (let e : (n + 0x0FFF_FFFF + n / 2 ^ place % 2) / 2 ^ 29 ≡ n / 2 ^ 29 = omega arith in e) ∙ sym (ap (nearest (n / 2 ^ 29)) (compare-lt (n % 2 ^ 29 * 2) (2 ^ 29) l))
  | inr g ↦ elim (eq-or-lt_of_le g) [
    | inl t ↦ (let e : (n + 0x0FFF_FFFF + n / 2 ^ place % 2) / 2 ^ 29 ≡ n / 2 ^ 29 + n / 2 ^ 29 % 2 = omega arith in e) ∙ sym (ap (nearest (n / 2 ^ 29)) (compare-eq (n % 2 ^ 29 * 2) (2 ^ 29) (sym t)))
    | inr l ↦ (let e : (n + 0x0FFF_FFFF + n / 2 ^ place % 2) / 2 ^ 29 ≡ suc (n / 2 ^ 29) = omega arith in e) ∙ sym (ap (nearest (n / 2 ^ 29)) (compare-gt (n % 2 ^ 29 * 2) (2 ^ 29) l))
  ]
]

units-off : (x n : ℕ) → (x * 2 ^ 29 + n) / 2 ^ 29 ≡ x + n / 2 ^ 29
units-off x n = omega arith

same-parity : (x n : ℕ) → (x * 2 + n) % 2 ≡ n % 2
same-parity x n = omega arith

-- the exponent's field lies above the digits that are cut off
fielded : (b e t : ℕ) → b ≡ e * 2 ^ 52 + t → t < 2 ^ 52 → 897 ≤ e
    → (b + 0x0FFF_FFFF + b / 2 ^ place % 2) / 2 ^ 29 - 0x1_C000_0000 ≡ (e - 897) * 2 ^ 23 + (2 ^ 52 + t + 0x0FFF_FFFF + (2 ^ 52 + t) / 2 ^ place % 2) / 2 ^ 29
fielded b e t h l g =
    let x = (e - 1) * 2 ^ 22 * 2 in
    let n = 2 ^ 52 + t in
    let k = n / 2 ^ place % 2 in
    let i : b ≡ x * 2 ^ 29 + n = omega arith in
    let j : b / 2 ^ place % 2 ≡ k = ap (λ (z : ℕ). z / 2 ^ place % 2) i ∙ ap (λ (z : ℕ). z % 2) (units-off x n) ∙ same-parity ((e - 1) * 2 ^ 22) (n / 2 ^ 29) in
    let u : b + 0x0FFF_FFFF + b / 2 ^ place % 2 ≡ x * 2 ^ 29 + (n + 0x0FFF_FFFF + k) = ap₂ (λ (y z : ℕ). y + 0x0FFF_FFFF + z) i j ∙ (let a : x * 2 ^ 29 + n + 0x0FFF_FFFF + k ≡ x * 2 ^ 29 + (n + 0x0FFF_FFFF + k) = regroup (x * 2 ^ 29) n 0x0FFF_FFFF k in a) in
    ap (λ (z : ℕ). z / 2 ^ 29 - 0x1_C000_0000) u ∙ ap (λ (z : ℕ). z - 0x1_C000_0000) (units-off x (n + 0x0FFF_FFFF + k)) ∙ less-field e ((n + 0x0FFF_FFFF + k) / 2 ^ 29) g
  where
    regroup : (a b c d : ℕ) → a + b + c + d ≡ a + (b + c + d)
    regroup a b c d = omega arith

    less-field : (e w : ℕ) → 897 ≤ e → (e - 1) * 2 ^ 22 * 2 + w - 0x1_C000_0000 ≡ (e - 897) * 2 ^ 23 + w
    less-field e w g = omega arith

-- the code's pattern
abbrev pub cut_off : ℕ → ℕ
cut_off b = (b + 0x0FFF_FFFF + bit_and (b / 2 ^ place) 1) / 2 ^ 29

module _ (b : ℕ) (lo : 897 * 2 ^ 52 ≤ b) (hi : b ≤ 1151 * 2 ^ 52) where
  abbrev r : ℕ
  r = cut_off b - 0x1_C000_0000

  r-is : r ≡ (b / 2 ^ 52 - 897) * 2 ^ 23 + closest (m b) (2 ^ 29)
  r-is =
      let p : 2 ^ 52 + b % 2 ^ 52 ≡ m b = sym (m-is b) in
      ap (λ (n : ℕ). (b + 0x0FFF_FFFF + n) / 2 ^ 29 - 0x1_C000_0000) (and_mask (b / 2 ^ place) 1)
      ∙ fielded b (b / 2 ^ 52) (b % 2 ^ 52) (sym (div-add-mod' b (2 ^ 52))) (mod-lt b (lit< tt)) (omega arith)
      ∙ ap (λ (n : ℕ). (b / 2 ^ 52 - 897) * 2 ^ 23 + n) (ap (λ (n : ℕ). (n + 0x0FFF_FFFF + n / 2 ^ place % 2) / 2 ^ 29) p ∙ half_up (m b))

  bit_le : bit_and (b / 2 ^ place) 1 ≤ 1
  bit_le = omega (arith, and_mask (b / 2 ^ place) 1)

  pub r-le : r ≤ top
  r-le = omega (arith, bit_le)

  pub over : 0x1_C000_0000 ≤ cut_off b
  over = omega arith

  is-narrowed : Narrowed b r
  is-narrowed =
      let B : b % 2 ^ 63 ≡ b = mod-eq_of_lt (omega arith) in
      let R : r % 2 ^ 31 ≡ r = mod-eq_of_lt (omega (arith, r-le)) in
      record {
        nan = λ g. absurd (omega (arith, B));
        sign = λ _. (let x : r / 2 ^ 31 ≡ 0 = omega (arith, r-le) in x) ∙ (let y : 0 ≡ b / 2 ^ 63 = omega arith in y);
        near = λ _. subst (λ (a : ℕ). Nearest size32 top (size64 a) (r % 2 ^ 31)) (sym B) (subst (Nearest size32 top (size64 b)) (sym R) ((wide b (b / 2 ^ 52) refl r (omega arith) r-is).0 r-le));
        infinite = λ g. absurd (omega (arith, B));
      }

  pub cut-is : r ≡ narrow_bits b
  cut-is = narrowed-unique b r (narrow_bits b) is-narrowed (narrow-meets b (omega arith))

  pub cut-number : T (not (nan_bits binary32 r))
  cut-number = no-nan-upto binary32 r (let R : r % 2 ^ 31 ≡ r = mod-eq_of_lt (omega (arith, r-le)) in omega (arith, r-le))
