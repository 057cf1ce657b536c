-- 2 ^ 52 added to a number from 0 to 255, and taken off again, leaves the nearest whole number. Assumes nothing.
use Rattle.std.proofs.Common.{◌≡◌, ℕ, ◌+◌, ◌-◌, ◌*◌, ◌/◌, ◌%◌, ◌^◌, ◌<◌, ◌≤◌, Bool, true, false, not, T, ℤ, sym, refl, ap, ◌∙◌, subst, ap₂, true≢false, lt_of_lt_of_le, mul_assoc, div-lt_iff_lt-mul, add-mul, lt_of_mul-lt-mul_right, mul-pos, mul-one, arith, lit<, lit≤, shl_lt}
use lib.Arith.{digits_div}
use lib.Ieee.{Float, nan, inf, fin, binary64, up, down, round, sum, add, sub, lt, is_nan, of_int, of_bits, to_bits}
use lib.Ieee.Fits.{down_pos, round-fits}
use lib.Ieee.Exact.{HasValue, round_exact}
use lib.Ieee.Scale.{round_same}
use lib.Ieee.Back.{round_whole, whole_unique}
use mir.Val.{bool_byte}
use Rattle.number_floats.specs.Whole.{one_half, away_size}
use Rattle.number_floats.proofs.whole.Closest.{rounds-near, whole-bits, number}
use Rattle.number_floats.proofs.whole.Halves.{below_half, not-below-half}
use Rattle.picture_resize.specs.Resize.{whole, to_byte}
use Rattle.picture_resize.specs.inner.Weighed.{Held}
use Rattle.picture_resize.proofs.Wholes.{Is, is_whole, sub_is}
use Rattle.picture_resize.proofs.Same.{byte_at}

-- 2 ^ 52
abbrev pub big : Float
big = of_bits binary64 0x4330_0000_0000_0000

big-is : Is big (2 ^ 52)
unfolding of_bits
big-is = (refl, refl)

-- the middle above a whole number
middle : (k : ℕ) → k ≤ 2 ^ 51 → HasValue (round binary64 false (2 * k + 1) 2) false (2 * k + 1) 2
middle k h =
    let q = 2 * k + 1 in
    let l : q < 2 ^ 53 = omega arith in
    round_exact binary64 false q 2 q 1073 (lit< tt) l (lt_of_lt_of_le (shl_lt 53 1073 l) (lit≤ tt)) (sym (mul_assoc q (2 ^ 1073) 2))

half-more : (t : Float) (k : ℕ) → k ≤ 2 ^ 51 → Is t k → HasValue (add binary64 t one_half) false (2 * k + 1) 2
unfolding add sum of_bits
half-more nan k h v = absurd v
half-more (inf s) k h v = absurd v
half-more (fin true m e) k h v = absurd (true≢false v.0)
half-more (fin false m e) k h v =
    let p : m * up e ≡ k * down e = sym (mul-one (m * up e)) ∙ v.1 in
    subst (λ (x : Float). HasValue x false (2 * k + 1) 2)
    (sym (round_same binary64 false (m * up e * 2 + 1 * 1 * down e) (down e * 2) (2 * k + 1) 2 (omega (arith, down_pos e)) (lit< tt) (let x : (m * up e * 2 + 1 * 1 * down e) * 2 ≡ (2 * k + 1) * (down e * 2) = omega (arith, p) in x)))
    (middle k h)

-- ---- factors in order, from the products
low_of : (w c : ℕ) → 0 < c → 2 * (2 ^ 52 * c) ≤ 2 * (w * c) + c → 2 ^ 52 ≤ w
low_of w c C g =
    let x : 2 ^ 52 * c < (w + 1) * c = omega arith in
    let y : 2 ^ 52 < w + 1 = lt_of_mul-lt-mul_right c x in
    omega arith

high-of : (k c : ℕ) → 0 < c → 2 * (k * c) ≤ 511 * c → k < 257
high-of k c C g = let x : k * c < 257 * c = omega arith in lt_of_mul-lt-mul_right c x

-- ---- z is a / c, and k at most a half away from it
module _ (a c k : ℕ) (C : 0 < c) (above : 2 * (k * c) ≤ 2 * a + c) (below : 2 * a ≤ 2 * (k * c) + c) where
  stays : a * 2 < (2 * k + 1) * c → away_size a c ≡ k
  stays h =
      let x : 2 * a + c ≡ k * (2 * c) + (2 * a + c - 2 * (k * c)) = omega arith in
      ap (λ (n : ℕ). n / (2 * c)) x ∙ digits_div k {m = 2 * c} {r = 2 * a + c - 2 * (k * c)} (omega arith)

  rises : (2 * k + 1) * c ≤ a * 2 → away_size a c ≡ k + 1
  rises h =
      let x : 2 * a + c ≡ (k + 1) * (2 * c) + 0 = omega arith in
      ap (λ (n : ℕ). n / (2 * c)) x ∙ digits_div (k + 1) {m = 2 * c} {r = 0} (omega arith)

-- what near_byte works out
abbrev pub lifted : Float → Float
lifted z = add binary64 z big

abbrev pub mid : Float → Float
mid z = add binary64 (sub binary64 (lifted z) big) one_half

pub record Rounds (z : Float) : Type 0 where
  pub is_number : T (not (is_nan (lifted z)))
  pub nearest : ℕ
  pub bits : to_bits binary64 (lifted z) ≡ 1075 * 2 ^ 52 + nearest
  pub stay : lt z (mid z) ≡ true → to_byte z ≡ nearest
  pub rise : lt z (mid z) ≡ false → to_byte z ≡ nearest + 1
  pub small : to_byte z < 256

module _ (m : ℕ) (e : ℤ) (h : m * up e ≤ 255 * down e) where
  abbrev a : ℕ
  a = m * up e

  abbrev c : ℕ
  c = down e

  abbrev n : ℕ
  n = 2 ^ 52 * c + a

  abbrev z : Float
  z = fin false m e

  sum_is : lifted z ≡ round binary64 false n c
  unfolding add sum of_bits
  sum_is = ap₂ (round binary64 false) (let x : a * 1 + 1 * 2 ^ 52 * c ≡ 2 ^ 52 * c + a = omega arith in x) (mul-one c)

  away-small : away_size a c < 256
  away-small = (div-lt_iff_lt-mul (mul-pos (lit< tt) (down_pos e))).1 (omega (arith, down_pos e))

  byte-is : to_byte z ≡ away_size a c
  unfolding whole of_int
  byte-is = byte_at z (away_size a c) away-small refl

  rounded : Rounds z
  rounded =
      let C : 0 < c = down_pos e in
      let r = rounds-near n c C (omega arith) (omega arith) in
      let w = r.0 in
      let l : 2 ^ 52 ≤ w = low_of w c C (omega (arith, r.2.below)) in
      let k = w - 2 ^ 52 in
      let W : w ≡ 2 ^ 52 + k = omega arith in
      let wc : w * c ≡ 2 ^ 52 * c + k * c = ap (λ (x : ℕ). x * c) W ∙ add-mul (2 ^ 52) k c in
      let K : k < 257 = high-of k c C (omega (arith, r.2.above)) in
      let s-is : lifted z ≡ round binary64 false w 1 =
      sum_is ∙ whole_unique binary64 (round binary64 false n c) (round binary64 false w 1) false w (round-fits binary64 false n c) (round-fits binary64 false w 1) r.1 (round_whole binary64 false w (omega arith)) in
      let t-is : sub binary64 (lifted z) big ≡ whole k = ap (λ (x : Float). sub binary64 x big) sum_is ∙ sub_is (round binary64 false n c) big w (2 ^ 52) l r.1 big-is in
      let v : HasValue (mid z) false (2 * k + 1) 2 = subst (λ (x : Float). HasValue (add binary64 x one_half) false (2 * k + 1) 2) (sym t-is) (half-more (whole k) k (omega arith) (is_whole k (omega arith))) in
      record {
        is_number = subst (λ (x : Float). T (not (is_nan x))) (sym s-is) (number (round binary64 false w 1) false w (round_whole binary64 false w (omega arith)));
        nearest = k;
        bits = ap (to_bits binary64) s-is ∙ whole-bits w l (omega arith) ∙ (let x : 1074 * 2 ^ 52 + w ≡ 1075 * 2 ^ 52 + k = omega arith in x);
        stay = (λ t. byte-is ∙ stays a c k C (omega (arith, r.2.above)) (omega (arith, r.2.below)) (below_half (mid z) (2 * k + 1) m e v t));
        rise = (λ t. byte-is ∙ rises a c k C (omega (arith, r.2.above)) (omega (arith, r.2.below)) (not-below-half (mid z) (2 * k + 1) m e v t));
        small = subst (λ (x : ℕ). x < 256) (sym byte-is) away-small;
      }

pub rounds : (z : Float) → Held z → Rounds z
rounds nan h = absurd h
rounds (inf s) h = absurd h
rounds (fin true m e) h = absurd h
rounds (fin false m e) h = rounded m e h

-- the byte that near_byte makes of it
pub made : (z : Float) (r : Rounds z) (under : Bool) → under ≡ lt z (mid z) → (to_bits binary64 (lifted z) + bool_byte (not under)) % 256 ≡ to_byte z
made z r true e = let x = r.bits in let y = r.stay (sym e) in let s = r.small in omega arith
made z r false e = let x = r.bits in let y = r.rise (sym e) in let s = r.small in omega arith

pub nearest-low : {z : Float} (r : Rounds z) → r.nearest < 256
nearest-low {z} r = go (lt z (mid z)) refl
  where
    go : (b : Bool) → lt z (mid z) ≡ b → r.nearest < 256
    go true e = let y = r.stay e in let s = r.small in omega arith
    go false e = let y = r.rise e in let s = r.small in omega arith
