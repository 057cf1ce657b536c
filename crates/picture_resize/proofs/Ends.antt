-- A value held from 0 to 255 gives the byte that it gave. Assumes nothing.
use Rattle.std.proofs.Common.{◌≡◌, ℕ, ◌*◌, ◌/◌, ◌<◌, ◌≤◌, Bool, true, false, cond, ◌&&◌, ◌||◌, T, eqb, ltb, ℤ, sym, refl, ap, ◌∙◌, subst, ap₂, inl, inr, true≢false, zero-le, eq-or-lt_of_le, mul-pos, le-div_iff_mul-le, arith, lit<, lit≤, le-ltb, lt-ltb, ne_eqb}
use native.Mathlib.Nat.{div-eq_of_lt}
use lib.Ieee.{Float, nan, inf, fin, binary64, up, down, round, lt, le, eq, of_bits, to_unsigned}
use lib.Ieee.Fits.{down_pos}
use lib.Ieee.Order.{round_mono}
use Rattle.number_floats.specs.Constants.{zero64}
use Rattle.number_floats.specs.Whole.{away_size, away}
use Rattle.number_floats.proofs.Bound.{Signed, signed_round}
use Rattle.number_floats.proofs.Ways.{lt-or-ge}
use Rattle.picture_resize.specs.Resize.{byte_top, clamp, to_byte}
use Rattle.picture_resize.specs.inner.Weighed.{held, Held}

-- ---- below zero
cast-below : (v : Float) → Signed true v → to_unsigned 8 (clamp v) ≡ 0
unfolding lt to_unsigned of_bits
cast-below nan s = absurd s
cast-below (inf true) s = refl
cast-below (inf false) s = absurd (true≢false (sym s))
cast-below (fin false m e) s = absurd (true≢false (sym s))
cast-below (fin true m e) s = either (lt (fin true m e) zero64)
  where
    either : (b : Bool) → to_unsigned 8 (cond b zero64 (fin true m e)) ≡ 0
    either true = refl
    either false = refl

below-is : (m : ℕ) (e : ℤ) → to_byte (fin true m e) ≡ 0
unfolding to_byte
below-is m e = cast-below (away (fin true m e)) (signed_round binary64 true (away_size (m * up e) (down e)) 1)

-- ---- at zero
zero-byte : to_unsigned 8 (clamp (round binary64 false 0 1)) ≡ 0
unfolding lt to_unsigned of_bits round
zero-byte = refl

zero_is : (m : ℕ) (e : ℤ) → m * up e ≡ 0 → to_byte (fin false m e) ≡ 0
unfolding to_byte
zero_is m e z =
    ap (λ (n : ℕ). to_unsigned 8 (clamp (round binary64 false n 1)))
    (ap (λ (a : ℕ). away_size a (down e)) z ∙ div-eq_of_lt (omega (arith, down_pos e)))
    ∙ zero-byte

-- ---- from 255 on
at_least : (a b : ℕ) (t : Bool) → T (ltb a b || (eqb a b && t)) → a ≤ b
at_least a b t h = elim (lt-or-ge a b) [
  | inl l ↦ omega arith
  | inr g ↦ elim (eq-or-lt_of_le g) [
    | inl e ↦ omega arith
    | inr l ↦ absurd (subst T (ap₂ (λ (x y : Bool). x || (y && t)) (le-ltb a b g) (ne_eqb a b (λ (e : a ≡ b). omega arith))) h)
  ]
]

cast-above : (m : ℕ) (e : ℤ) → 255 * down e ≤ m * up e → to_unsigned 8 (clamp (fin false m e)) ≡ 255
unfolding lt to_unsigned of_bits
cast-above m e h =
    rw (le-ltb (m * up e * 1) (0 * 1 * down e) (omega arith)) (either (lt byte_top (fin false m e)))
  where
    either : (b : Bool) → to_unsigned 8 (cond b byte_top (fin false m e)) ≡ 255
    either true = refl
    either false = let q : 255 ≤ m * up e / down e = (le-div_iff_mul-le (down_pos e)).1 h in omega arith

not-under : (v : Float) → T (le (round binary64 false 255 1) v) → Signed false v → to_unsigned 8 (clamp v) ≡ 255
unfolding lt le eq to_unsigned of_bits round
not-under nan h s = absurd s
not-under (inf true) h s = absurd (true≢false s)
not-under (inf false) h s = refl
not-under (fin true m e) h s = absurd (true≢false s)
not-under (fin false m e) h s = cast-above m e (omega (arith, at_least (255 * 1 * down e) (m * up e * 1) _ h))

above-is : (m : ℕ) (e : ℤ) → 255 * down e ≤ m * up e → to_byte (fin false m e) ≡ 255
unfolding to_byte
above-is m e h =
    let N = away_size (m * up e) (down e) in
    let g : 255 ≤ N = (le-div_iff_mul-le (mul-pos (lit< tt) (down_pos e))).1 (omega arith) in
    not-under (round binary64 false N 1) (round_mono binary64 255 1 N 1 (lit< tt) (lit< tt) (omega arith)) (signed_round binary64 false N 1)

zero-64 : to_byte zero64 ≡ 0
unfolding to_byte lt to_unsigned of_bits round
zero-64 = refl

top_64 : to_byte byte_top ≡ 255
unfolding to_byte lt to_unsigned of_bits round
top_64 = refl

-- ---- so both ends keep the byte
pub record Holds (x z : Float) : Type 0 where
  pub inside : Held z
  pub same : to_byte z ≡ to_byte x

low_end : (x : Float) → to_byte x ≡ 0 → Holds x zero64
unfolding of_bits
low_end x e = record { inside = zero-le; same = zero-64 ∙ sym e }

top-end : (x : Float) → to_byte x ≡ 255 → Holds x byte_top
unfolding of_bits
top-end x e = record { inside = lit≤ tt; same = top_64 ∙ sym e }

-- x is a / c
module _ (m : ℕ) (e : ℤ) where
  abbrev x : Float
  x = fin false m e

  below_top : 0 < m * up e → m * up e < 255 * down e → held x ≡ x
  unfolding held lt of_bits
  below_top l h = rw (lt-ltb (0 * 1 * down e) (m * up e * 1) (omega arith), lt-ltb (m * up e * 1) (255 * 1 * down e) (omega arith)) refl

  at_top : 255 * down e ≤ m * up e → held x ≡ byte_top
  unfolding held lt of_bits
  at_top h = rw (lt-ltb (0 * 1 * down e) (m * up e * 1) (omega (arith, down_pos e)), le-ltb (m * up e * 1) (255 * 1 * down e) (omega arith)) refl

  at_zero : m * up e ≡ 0 → held x ≡ zero64
  unfolding held lt of_bits
  at_zero z = rw (le-ltb (0 * 1 * down e) (m * up e * 1) (omega arith)) refl

  number-held : Holds x (held x)
  number-held = elim (lt-or-ge 0 (m * up e)) [
    | inr z ↦ subst (Holds x) (sym (at_zero (omega arith))) (low_end x (zero_is m e (omega arith)))
    | inl l ↦ elim (lt-or-ge (m * up e) (255 * down e)) [
      | inl h ↦ subst (Holds x) (sym (below_top l h)) (record { inside = omega arith; same = refl })
      | inr h ↦ subst (Holds x) (sym (at_top h)) (top-end x (above-is m e h))
    ]
  ]

nan-byte : to_byte nan ≡ 0
unfolding to_byte lt to_unsigned of_bits
nan-byte = refl

low_byte : to_byte (inf true) ≡ 0
unfolding to_byte lt to_unsigned of_bits
low_byte = refl

high_byte : to_byte (inf false) ≡ 255
unfolding to_byte lt to_unsigned of_bits
high_byte = refl

pub holds : (x : Float) → Holds x (held x)
unfolding held lt of_bits
holds nan = low_end nan nan-byte
holds (inf true) = low_end (inf true) low_byte
holds (inf false) = top-end (inf false) high_byte
holds (fin true m e) = low_end (fin true m e) (below-is m e)
holds (fin false m e) = number-held m e
