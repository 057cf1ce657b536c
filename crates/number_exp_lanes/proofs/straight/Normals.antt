-- Inside, the ten terms give a p from 1 / 4 to 2, k is from −124 to 127, and so F is from 2 ^ -126 to 2 ^ 128. Assumes nothing.
use mathlib.Core.Path.{◌≡◌, refl, sym, ap, ◌∙◌, subst}
use mathlib.Core.Logic.{◌⊎◌, inl, inr}
use mathlib.Core.Bool.{Bool, true, false, true≢false}
use Prim.Native.Nat.{ℕ, zero, suc, ◌+◌, ◌-◌, ◌*◌, ◌^◌, ◌≤◌, ◌<◌}
use native.Mathlib.Nat.{one-mul, mul_assoc, mul_comm, mul_right_comm, mul-pos, mul-le-mul, mul-le-mul_right, le_trans, le_of_eq, le_of_mul-le-mul_right}
use native.Mathlib.Omega.{arith}
use borrow.Author.Tests.{le-ltb, ne_eqb}
use lib.IntN.{ℤ, pos, negsuc}
use lib.Dec.{T, lt→ltb, lit≤}
use lib.Pow.{pow_pos, pow_mono}
use lib.Ieee.{Float, nan, inf, fin, binary64, up, down, minus, unlike, round, sum, add, mul, div, le, of_int, of_bits, size, units, odd, of_fields}
use lib.Ieee.Bits.{is_true}
use lib.Ieee.Digits.{minus_val}
use lib.Ieee.Fits.{down_pos}
use lib.Ieee.Exact.{HasValue}
use lib.Ieee.Back.{round_whole}
use lib.Ieee.Positive.{num, den, positive, first_pos, cross→le, mul_mono}
use Rattle.number_floats.specs.Constants.{one64}
use Rattle.number_floats.proofs.Bound.{Signed, signed_round}
use Rattle.buffers.proofs.Lists.{and_both}
use Rattle.number_exp_tanh.specs.Exp.{term, series, k_of, r_of, F}
use Rattle.number_exp_lanes.specs.inner.Near.{inside, normal}
use Rattle.number_exp_lanes.proofs.straight.Grid.{Upto, upto-round, from-round}
use Rattle.number_exp_lanes.proofs.straight.Reduced.{Reduced}
use Rattle.number_exp_lanes.proofs.straight.Rests.{l, g, k-reduced, rest-small}
use Rattle.number_exp_lanes.proofs.straight.Powers.{field, exponent}
use Rattle.number_exp_lanes.proofs.straight.Insides.{ends, inside-bounded, inside-size}

-- ---- p is from 1 / 4 to 2
abbrev In : Float → Type 0
In nan = ⊥
In (inf s) = ⊥
In (fin true m e) = ⊥
In (fin false m e) = (256 * down e ≤ m * up e * 1024) × (m * up e * 1024 ≤ 2048 * down e)

in-of : (z : Float) → Signed false z → Upto 2048 z → 256 * den z ≤ num z * 1024 → In z
in-of nan s h b = absurd h
in-of (inf t) s h b = absurd h
in-of (fin true m e) s h b = absurd (true≢false s)
in-of (fin false m e) s h b = (b, h)

in-round : (n d : ℕ) → 0 < d → 256 * d ≤ n * 1024 → n * 1024 ≤ 2048 * d → In (round binary64 false n d)
in-round n d D lo hi = in-of (round binary64 false n d) (signed_round binary64 false n d) (upto-round false n d 2048 D (lit≤ tt) hi) (from-round false n d 256 D (lit≤ tt) (omega arith) lo)

in_one : In one64
unfolding of_bits
in_one = (lit≤ tt, lit≤ tt)

-- ---- one term more
product : (r p : Float) → Upto 384 r → In p → Upto 768 (mul binary64 r p)
unfolding mul
product nan p h i = absurd h
product (inf s) p h i = absurd h
product (fin s m e) nan h i = absurd i
product (fin s m e) (inf t) h i = absurd i
product (fin s m e) (fin true k d) h i = absurd i
product (fin s m e) (fin false k d) h i =
    let w : k * up d ≤ 2 * down d = omega (arith, i.1) in
    let x : m * up e * 1024 * (k * up d) ≤ 384 * down e * (2 * down d) = mul-le-mul h w in
    upto-round (unlike s false) (m * up e * (k * up d)) (down e * down d) 768 (mul-pos (down_pos e) (down_pos d)) (lit≤ tt) (omega (arith, x))

quotient : (z n : Float) (i : ℕ) → Upto 768 z → HasValue n false (suc i) 1 → Upto 768 (div binary64 z n)
unfolding div
quotient nan n i h v = absurd h
quotient (inf s) n i h v = absurd h
quotient (fin s m e) nan i h v = absurd v
quotient (fin s m e) (inf t) i h v = absurd v
quotient (fin s m e) (fin true k d) i h v = absurd (true≢false v.0)
quotient (fin s m e) (fin false k d) i h v =
    let D = down_pos d in
    let w : down d ≤ k * up d = omega (arith, v.1) in
    let K : 0 < k = first_pos k (up d) (omega (arith, w, D)) in
    let x : m * up e * 1024 * down d ≤ 768 * down e * (k * up d) = mul-le-mul h w in
    rw (ne_eqb k 0 (λ z. omega arith))
    (upto-round (unlike s false) (m * up e * down d) (k * up d * down e) 768 (mul-pos (omega (arith, w, D)) (down_pos e)) (lit≤ tt) (omega (arith, x)))

one_more : (w : Float) → Upto 768 w → In (add binary64 one64 w)
unfolding add sum of_bits
one_more nan h = absurd h
one_more (inf s) h = absurd h
one_more (fin false k d) h = let D = down_pos d in in-round (1 * 1 * down d + k * up d * 1) (1 * down d) (omega arith) (omega arith) (omega arith)
one_more (fin true k d) h =
    let D = down_pos d in
    rw (le-ltb (1 * 1 * down d) (k * up d * 1) (omega arith)) (in-round (1 * 1 * down d - k * up d * 1) (1 * down d) (omega arith) (omega arith) (omega arith))

series-in : (r : Float) (i : ℕ) (p : Float) → Upto 384 r → i ≤ 10 → In p → In (series r i p)
unfolding series
series-in r zero p h b q = q
series-in r (suc i) p h b q = series-in r i (term r p (of_int binary64 (pos (suc i)))) h (omega arith) (one_more _ (quotient (mul binary64 r p) (of_int binary64 (pos (suc i))) i (product r p h q) value))
  where
    value : HasValue (of_int binary64 (pos (suc i))) false (suc i) 1
    value = unfold of_int in round_whole binary64 false (suc i) (omega arith)

-- ---- k
few : (a c n b : ℕ) → 0 < c → a ≤ b * c → 1024 * n * (l * c) ≤ a * g * 1024 + 514 * (l * c) → 1024 * n * l ≤ b * g * 1024 + 514 * l
few a c n b C h i =
    let x : a * (g * 1024) ≤ b * c * (g * 1024) = mul-le-mul_right (g * 1024) h in
    le_of_mul-le-mul_right {k = c} (omega (arith, x)) C

field-from : (s : Bool) (m : ℕ) (e : ℤ) (k : Float) → m * up e ≤ ends s * down e → (R : Reduced s (m * up e * g) (l * down e) k) → (R.1 ≤ 1000) × (899 ≤ field R.0 R.1) × (field R.0 R.1 ≤ 1150)
field-from s m e k h (t, n, v, o, p, q) = go s t o (few (m * up e) (down e) n (ends s) (down_pos e) h q)
  where
    go : (s t : Bool) → (t ≡ s) ⊎ (n ≡ 0) → 1024 * n * l ≤ ends s * g * 1024 + 514 * l → (n ≤ 1000) × (899 ≤ field t n) × (field t n ≤ 1150)
    go false false o i = (omega arith, omega arith, omega arith)
    go true true o i = (omega arith, omega arith, omega arith)
    go false true (inl e) i = absurd (true≢false e)
    go false true (inr e) i = (omega arith, omega arith, omega arith)
    go true false (inl e) i = absurd (true≢false (sym e))
    go true false (inr e) i = (omega arith, omega arith, omega arith)

-- 2 ^ (f - 1023), by its fraction
module _ (f : ℕ) (lo : 899 ≤ f) (hi : f ≤ 1150) where
  abbrev z : ℤ
  z = minus f 1023

  value : up z * 2 ^ 1023 ≡ 2 ^ f * down z
  value = ap (λ (n : ℕ). n * 2 ^ 1023) (sym (one-mul (up z))) ∙ minus_val 1 f 1023 ∙ ap (λ (n : ℕ). n * down z) (one-mul (2 ^ f))

  power-low : down z ≤ up z * 2 ^ 124
  power-low =
      let e : up z * 2 ^ 124 * 2 ^ 899 ≡ 2 ^ f * down z = mul_assoc (up z) (2 ^ 124) (2 ^ 899) ∙ value in
      le_of_mul-le-mul_right {k = 2 ^ 899} (le_trans (le_of_eq (mul_comm (down z) (2 ^ 899))) (le_trans (mul-le-mul_right (down z) (pow_mono lo)) (le_of_eq (sym e)))) (pow_pos 899)

  power-high : up z ≤ 2 ^ 127 * down z
  power-high =
      let e : 2 ^ 1150 * down z ≡ 2 ^ 127 * down z * 2 ^ 1023 = mul_right_comm (2 ^ 127) (2 ^ 1023) (down z) in
      le_of_mul-le-mul_right {k = 2 ^ 1023} (le_trans (le_of_eq value) (le_trans (mul-le-mul_right (down z) (pow_mono hi)) (le_of_eq e))) (pow_pos 1023)

-- ---- the product
abbrev quarter : Float
quarter = fin false 1 (negsuc 1)

abbrev two : Float
two = fin false 1 (pos 1)

abbrev low-power : Float
low-power = fin false 1 (negsuc 123)

abbrev high-power : Float
high-power = fin false 1 (pos 127)

in-says : (p : Float) → In p → T (positive p) × T (le quarter p) × T (le p two)
in-says nan h = absurd h
in-says (inf s) h = absurd h
in-says (fin true m e) h = absurd h
in-says (fin false m e) h =
    let D = down_pos e in
    let q : T (positive (fin false m e)) = lt→ltb 0 m (first_pos m (up e) (omega (arith, h.0))) in
    (q, cross→le quarter (fin false m e) tt q (omega (arith, h.0)), cross→le (fin false m e) two q tt (omega (arith, h.1)))

least-is : mul binary64 quarter low-power ≡ of_bits binary64 0x3810_0000_0000_0000
unfolding mul round of_bits size units odd of_fields
least-is = refl

most-is : mul binary64 two high-power ≡ of_bits binary64 0x47F0_0000_0000_0000
unfolding mul round of_bits size units odd of_fields
most-is = refl

low-one : (d u p : ℕ) → d ≤ u * p → 1 * 1 * d ≤ 1 * u * p
low-one d u p h = omega arith

high_one : (u p d : ℕ) → u ≤ p * d → 1 * u * 1 ≤ 1 * p * d
high_one u p d h = omega arith

scaled : (p : Float) (f : ℕ) → In p → 899 ≤ f → f ≤ 1150 → normal (mul binary64 p (fin false 1 (minus f 1023))) ≡ true
scaled p f h lo hi =
    let y = fin false 1 (minus f 1023) in
    let i = in-says p h in
    let a : T (le low-power y) = cross→le low-power y tt tt (low-one (down (minus f 1023)) (up (minus f 1023)) (2 ^ 124) (power-low f lo hi)) in
    let b : T (le y high-power) = cross→le y high-power tt tt (high_one (up (minus f 1023)) (2 ^ 127) (down (minus f 1023)) (power-high f lo hi)) in
    let v = mul binary64 p y in
    and_both _ _
    (is_true (le (of_bits binary64 0x3810_0000_0000_0000) v) (subst (λ (w : Float). T (le w v)) least-is (mul_mono binary64 quarter p low-power y tt i.0 tt tt i.1 a)))
    (is_true (le v (of_bits binary64 0x47F0_0000_0000_0000)) (subst (λ (w : Float). T (le v w)) most-is (mul_mono binary64 p two y high-power i.0 tt tt tt i.2 b)))

pub normal-inside : (x : Float) → inside x ≡ true → normal (F x) ≡ true
normal-inside nan h = absurd (inside-bounded nan h)
normal-inside (inf s) h = absurd (inside-bounded (inf s) h)
normal-inside (fin s m e) h =
    let x = fin s m e in
    let b = inside-bounded x h in
    let R = k-reduced s m e b in
    let w = field-from s m e (k_of x) (inside-size s m e h) R in
    subst (λ (z : ℤ). normal (mul binary64 (series (r_of x) 10 one64) (fin false 1 z)) ≡ true) (exponent R.1 w.0 R.0 (k_of x) R.2)
    (scaled (series (r_of x) 10 one64) (field R.0 R.1) (series-in (r_of x) 10 one64 (rest-small x b) (lit≤ tt) in_one) w.1 w.2)
