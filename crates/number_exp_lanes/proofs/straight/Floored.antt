-- 1.5 · 2 ^ 52 added and taken off again, and then one less where that came out too high, is the floor. Assumes nothing.
use mathlib.Core.Path.{◌≡◌, refl, sym, ap, ap₂, ◌∙◌}
use mathlib.Core.Logic.{inl, inr}
use mathlib.Core.Bool.{Bool, true, false, cond, true≢false}
use Prim.Native.Nat.{ℕ, ◌+◌, ◌-◌, ◌*◌, ◌/◌, ◌%◌, ◌^◌, ◌≤◌, ◌<◌, zero-le}
use native.Mathlib.Nat.{mul-one, add-zero, add-mul, mod-lt, div-add-mod', div-lt_iff_lt-mul, le-div_iff_mul-le, le_of_suc-le-suc}
use native.Mathlib.Omega.{arith}
use borrow.Author.Tests.{lt-ltb, le-ltb, ltb-true, ltb-false}
use lib.IntN.{ℤ}
use lib.Arith.{digits_div}
use lib.Dec.{ltb, lit≤}
use lib.Ieee.{Float, nan, inf, fin, binary64, up, down, neg, lt, round, sum, add, sub, of_bits}
use lib.Ieee.Fits.{down_pos}
use lib.Ieee.Exact.{HasValue}
use lib.Ieee.Back.{round_whole}
use Rattle.number_floats.proofs.Ways.{lt-or-ge}
use Rattle.number_floats.specs.Constants.{zero64, one64}
use Rattle.number_floats.specs.Whole.{floor}
use Rattle.number_floats.specs.inner.Bounds.{AtMost}
use Rattle.number_exp_lanes.specs.inner.Near.{NoMinusZero}
use Rattle.number_exp_lanes.proofs.straight.Wholes.{add-whole, lt-whole}
use Rattle.number_exp_lanes.proofs.straight.Large.{around}

-- 1.5 · 2 ^ 52, and as a float
abbrev size : ℕ
size = 6755399441055744

abbrev pub big : Float
big = of_bits binary64 0x4338_0000_0000_0000

abbrev pub near_of : Float → Float
near_of y = sub binary64 (add binary64 y big) big

-- w less `size`
abbrev less : ℕ → Float
less w = cond (ltb w size) (round binary64 true (size - w) 1) (round binary64 false (w - size) 1)

minus-big : HasValue (neg big) true size 1
unfolding neg of_bits
minus-big = (refl, refl)

minus_one : HasValue (neg one64) true 1 1
unfolding neg of_bits
minus_one = (refl, refl)

taken-off : (z : Float) (w : ℕ) → HasValue z false w 1 → sub binary64 z big ≡ less w
unfolding sub sum
taken-off z w v = add-whole z (neg big) false w true size v minus-big

one-off : (t : Float) (s : Bool) (k : ℕ) → HasValue t s k 1 → sub binary64 t one64 ≡ sum binary64 s k true 1 1
unfolding sub
one-off t s k v = add-whole t (neg one64) s k true 1 v minus_one

minus-zero : HasValue (neg zero64) true 0 1
unfolding neg of_bits
minus-zero = (refl, refl)

none-off : (t : Float) (s : Bool) (k : ℕ) → HasValue t s k 1 → sub binary64 t zero64 ≡ round binary64 s k 1
unfolding sub sum
none-off t false k v =
    add-whole t (neg zero64) false k true 0 v minus-zero ∙ ap (λ (b : Bool). cond b (round binary64 true (0 - k) 1) (round binary64 false (k - 0) 1)) (le-ltb k 0 zero-le)
    ∙ ap (λ (n : ℕ). round binary64 false n 1) (let e : k - 0 ≡ k = omega arith in e)
none-off t true k v = add-whole t (neg zero64) true k true 0 v minus-zero ∙ ap (λ (n : ℕ). round binary64 true n 1) (add-zero k)

-- ---- n / c is y + `size`, and w one of the two whole numbers around it
module _ (n c w : ℕ) (C : 0 < c) (lo : n / c ≤ w) (hi : w ≤ n / c + 1) where
  is-high : n < w * c → w ≡ n / c + 1
  is-high h = let l : n / c < w = (div-lt_iff_lt-mul C).1 h in omega arith

  is-low : w * c ≤ n → w ≡ n / c
  is-low h = let l : w ≤ n / c = (le-div_iff_mul-le C).1 h in omega arith

abbrev Floors : Float → Float → Float → Type 0
Floors y t f = (lt y t ≡ true → sub binary64 t one64 ≡ f) × (lt y t ≡ false → sub binary64 t zero64 ≡ f)

-- ---- y is a / c
module _ (m : ℕ) (e : ℤ) (small : m * up e ≤ 200 * down e) where
  abbrev a : ℕ
  a = m * up e

  abbrev c : ℕ
  c = down e

  sum-high : add binary64 (fin false m e) big ≡ round binary64 false (size * c + a) c
  unfolding add sum of_bits
  sum-high = ap₂ (round binary64 false) (let x : a * 1 + 3 * 2 ^ 51 * c ≡ size * c + a = omega arith in x) (mul-one c)

  high-whole : (size * c + a) / c ≡ size + a / c
  high-whole =
      let x : a / c * c + a % c ≡ a = div-add-mod' a c in
      let y : size * c + a ≡ (size + a / c) * c + a % c = omega arith in
      ap (λ (z : ℕ). z / c) y ∙ digits_div (size + a / c) {m = c} {r = a % c} (mod-lt a (down_pos e))

  floored-high : Floors (fin false m e) (near_of (fin false m e)) (floor (fin false m e))
  unfolding sum
  floored-high =
      let C : 0 < c = down_pos e in
      let n = size * c + a in
      let r = around n c C (omega arith) (omega arith) in
      let w = r.0 in
      let N = high-whole in
      let k = w - size in
      let W : w ≡ size + k = omega (arith, r.2, N) in
      let b : a / c ≤ 200 = le_of_suc-le-suc ((div-lt_iff_lt-mul C).1 (omega arith)) in
      let v : HasValue (round binary64 false k 1) false k 1 = round_whole binary64 false k (omega (arith, r.3, N, b)) in
      let t-is : near_of (fin false m e) ≡ round binary64 false k 1 =
      ap (λ (z : Float). sub binary64 z big) sum-high ∙ taken-off (round binary64 false n c) w r.1 ∙ ap (λ (t : Bool). cond t (round binary64 true (size - w) 1) (round binary64 false k 1)) (le-ltb w size (omega arith)) in
      let l-is : lt (fin false m e) (near_of (fin false m e)) ≡ ltb a (k * c) = ap (lt (fin false m e)) t-is ∙ lt-whole false m e (round binary64 false k 1) false k v in
      let wc : w * c ≡ size * c + k * c = ap (λ (z : ℕ). z * c) W ∙ add-mul size k c in (
        (λ h.
            let u : a < k * c = ltb-true a (k * c) (sym l-is ∙ h) in
            let x : w ≡ n / c + 1 = is-high n c w C r.2 r.3 (omega arith) in
            ap (λ (t : Float). sub binary64 t one64) t-is ∙ one-off (round binary64 false k 1) false k v
            ∙ ap (λ (t : Bool). cond t (round binary64 true (1 - k) 1) (round binary64 false (k - 1) 1)) (le-ltb k 1 (omega (arith, N)))
            ∙ ap (λ (z : ℕ). round binary64 false z 1) (let y : k - 1 ≡ a / c = omega (arith, N) in y)),
        (λ h.
            let u : k * c ≤ a = ltb-false a (k * c) (sym l-is ∙ h) in
            let x : w ≡ n / c = is-low n c w C r.2 r.3 (omega arith) in
            ap (λ (t : Float). sub binary64 t zero64) t-is ∙ none-off (round binary64 false k 1) false k v ∙ ap (λ (z : ℕ). round binary64 false z 1) (let y : k ≡ a / c = omega (arith, N) in y)),
      )

  -- ---- y is -a / c, and not zero
  module _ (some : 0 < a) where
    abbrev d : ℕ
    d = (a + (c - 1)) / c

    sum_low : add binary64 (fin true m e) big ≡ round binary64 false (size * c - a) c
    unfolding add sum of_bits
    sum_low =
        let C : 0 < c = down_pos e in
        rw (lt-ltb (a * 1) (3 * 2 ^ 51 * c) (omega arith)) (ap₂ (round binary64 false) (let x : 3 * 2 ^ 51 * c - a * 1 ≡ size * c - a = omega arith in x) (mul-one c))

    -- the floor's size is from 1 to 201
    d-parts : d * c + (a + (c - 1)) % c ≡ a + (c - 1)
    d-parts = div-add-mod' (a + (c - 1)) c

    d-high : d ≤ 201
    d-high = let C : 0 < c = down_pos e in le_of_suc-le-suc ((div-lt_iff_lt-mul C).1 (omega arith))

    d-low : 1 ≤ d
    d-low = let C : 0 < c = down_pos e in (le-div_iff_mul-le C).1 (omega arith)

    low-whole : (size * c - a) / c ≡ size - d
    low-whole =
        let l : (a + (c - 1)) % c < c = mod-lt (a + (c - 1)) (down_pos e) in
        let k = size - d in
        let K : size ≡ k + d = omega (arith, d-high) in
        let x : size * c ≡ k * c + d * c = ap (λ (z : ℕ). z * c) K ∙ add-mul k d c in
        let y : size * c - a ≡ k * c + (c - 1 - (a + (c - 1)) % c) = omega (arith, d-parts) in
        ap (λ (z : ℕ). z / c) y ∙ digits_div k {m = c} {r = c - 1 - (a + (c - 1)) % c} (omega arith)

    -- w below `size`, and at it
    module _ (w : ℕ) (lo : size - d ≤ w) (hi : w ≤ size - d + 1) (is : near_of (fin true m e) ≡ less w) where
      below-size : w < size → Floors (fin true m e) (near_of (fin true m e)) (floor (fin true m e))
      unfolding sum
      below-size s =
          let C : 0 < c = down_pos e in
          let n = size * c - a in
          let k = size - w in
          let N = low-whole in
          let W : size ≡ w + k = omega arith in
          let v : HasValue (round binary64 true k 1) true k 1 = round_whole binary64 true k (omega (arith, d-high)) in
          let t-is : near_of (fin true m e) ≡ round binary64 true k 1 = is ∙ ap (λ (t : Bool). cond t (round binary64 true k 1) (round binary64 false (w - size) 1)) (lt-ltb w size s) in
          let l-is : lt (fin true m e) (near_of (fin true m e)) ≡ ltb (k * c) a = ap (lt (fin true m e)) t-is ∙ lt-whole true m e (round binary64 true k 1) true k v in
          let wc : size * c ≡ w * c + k * c = ap (λ (z : ℕ). z * c) W ∙ add-mul w k c in
          let lo' : n / c ≤ w = omega (arith, N) in
          let hi' : w ≤ n / c + 1 = omega (arith, N) in (
            (λ h.
                let u : k * c < a = ltb-true (k * c) a (sym l-is ∙ h) in
                let x : w ≡ n / c + 1 = is-high n c w C lo' hi' (omega arith) in
                ap (λ (t : Float). sub binary64 t one64) t-is ∙ one-off (round binary64 true k 1) true k v
                ∙ ap (λ (z : ℕ). round binary64 true z 1) (let y : k + 1 ≡ d = omega (arith, N, d-high) in y)),
            (λ h.
                let u : a ≤ k * c = ltb-false (k * c) a (sym l-is ∙ h) in
                let x : w ≡ n / c = is-low n c w C lo' hi' (omega arith) in
                ap (λ (t : Float). sub binary64 t zero64) t-is ∙ none-off (round binary64 true k 1) true k v ∙ ap (λ (z : ℕ). round binary64 true z 1) (let y : k ≡ d = omega (arith, N, d-high) in y)),
          )

      at_size : size ≤ w → Floors (fin true m e) (near_of (fin true m e)) (floor (fin true m e))
      unfolding sum
      at_size s =
          let W : w - size ≡ 0 = omega (arith, d-low) in
          let D : 1 ≡ d = omega (arith, d-low) in
          let v : HasValue (round binary64 false 0 1) false 0 1 = round_whole binary64 false 0 (lit≤ tt) in
          let t-is : near_of (fin true m e) ≡ round binary64 false 0 1 = is ∙ ap (λ (t : Bool). cond t (round binary64 true (size - w) 1) (round binary64 false (w - size) 1)) (le-ltb w size s) ∙ ap (λ (z : ℕ). round binary64 false z 1) W in
          let l-is : lt (fin true m e) (near_of (fin true m e)) ≡ true = ap (lt (fin true m e)) t-is ∙ lt-whole true m e (round binary64 false 0 1) false 0 v ∙ lt-ltb 0 (a + 0 * c) (omega arith) in (
            (λ h. ap (λ (t : Float). sub binary64 t one64) t-is ∙ one-off (round binary64 false 0 1) false 0 v ∙ ap (λ (z : ℕ). round binary64 true z 1) D),
            (λ h. absurd (true≢false (sym l-is ∙ h))),
          )

    floored-low : Floors (fin true m e) (near_of (fin true m e)) (floor (fin true m e))
    floored-low =
        let C : 0 < c = down_pos e in
        let n = size * c - a in
        let r = around n c C (omega arith) (omega arith) in
        let lo : size - d ≤ r.0 = omega (arith, r.2, low-whole) in
        let hi : r.0 ≤ size - d + 1 = omega (arith, r.3, low-whole) in
        let is : near_of (fin true m e) ≡ less r.0 = ap (λ (z : Float). sub binary64 z big) sum_low ∙ taken-off (round binary64 false n c) r.0 r.1 in
        elim (lt-or-ge r.0 size) [ inl s ↦ below-size r.0 lo hi is s | inr s ↦ at_size r.0 lo hi is s ]

pub floored : (y : Float) → AtMost 200 y → NoMinusZero y → Floors y (near_of y) (floor y)
floored nan h z = absurd h
floored (inf s) h z = absurd h
floored (fin false m e) h z = floored-high m e h
floored (fin true m e) h z = floored-low m e h z
