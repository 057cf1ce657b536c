-- k is within a little more than one half of x / L: both roundings before the floor keep to the grid of 1 / 1024. Assumes nothing.
use mathlib.Core.Path.{◌≡◌, refl, sym, ap, ◌∙◌, subst}
use mathlib.Core.Logic.{◌⊎◌, inl, inr}
use mathlib.Core.Bool.{Bool, true, false, true≢false}
use Prim.Native.Nat.{ℕ, zero, suc, ◌+◌, ◌-◌, ◌*◌, ◌/◌, ◌%◌, ◌≤◌, ◌<◌}
use native.Mathlib.Nat.{mod-lt, div-add-mod', div-eq_of_lt, div-lt_iff_lt-mul, div-mul-le_self, le_of_suc-le-suc}
use native.Mathlib.Omega.{arith}
use borrow.Author.Tests.{lt-ltb, le-ltb}
use lib.Dec.{lit≤}
use lib.Ieee.{Float, nan, inf, fin, binary64, up, down, round, sum, add, of_bits}
use lib.Ieee.Exact.{HasValue}
use lib.Ieee.Back.{round_whole}
use lib.Ieee.Positive.{num, den, den_pos}
use Rattle.number_floats.specs.Whole.{one_half, floor}
use Rattle.number_floats.specs.inner.Bounds.{AtMost}
use Rattle.number_floats.proofs.Ways.{lt-or-ge}
use Rattle.number_floats.proofs.Bound.{Signed, signed_round, at-most-round}
use Rattle.number_exp_lanes.proofs.straight.Grid.{upto-round, upto-says, back_below, back_above}

-- n / d is x / L in size, and s the sign
abbrev pub Reduced : Bool → ℕ → ℕ → Float → Type 0
Reduced s n d k = (t : Bool) × (a : ℕ) × HasValue k t a 1 × ((t ≡ s) ⊎ (a ≡ 0)) × (n * 1024 ≤ (1024 * a + 514) * d) × (1024 * a * d ≤ n * 1024 + 514 * d)

-- ---- a finite float, by its sign
says : (n : ℕ) (z : Float) → AtMost n z → num z ≤ n * den z
says n nan h = absurd h
says n (inf s) h = absurd h
says n (fin s m e) h = h

half-plain : (n : ℕ) (q : Float) → Signed false q → AtMost n q → add binary64 q one_half ≡ round binary64 false (num q * 2 + den q) (den q * 2)
unfolding add sum of_bits
half-plain n nan s b = absurd b
half-plain n (inf t) s b = absurd b
half-plain n (fin true m e) s b = absurd (true≢false s)
half-plain n (fin false m e) s b = ap (λ (x : ℕ). round binary64 false (m * up e * 2 + x) (down e * 2)) (let z : 1 * 1 * down e ≡ down e = omega arith in z)

half-minus : (n : ℕ) (q : Float) → Signed true q → AtMost n q → add binary64 q one_half ≡ sum binary64 true (num q * 2) false (den q) (den q * 2)
unfolding add of_bits
half-minus n nan s b = absurd b
half-minus n (inf t) s b = absurd b
half-minus n (fin false m e) s b = absurd (true≢false (sym s))
half-minus n (fin true m e) s b = ap (λ (x : ℕ). sum binary64 true (m * up e * 2) false x (down e * 2)) (let z : 1 * 1 * down e ≡ down e = omega arith in z)

low_sum : (a b d : ℕ) → a ≤ b → sum binary64 true a false b d ≡ round binary64 false (b - a) d
unfolding sum
low_sum a b d h = elim (lt-or-ge a b) [
  | inl l ↦ rw (lt-ltb a b l) refl
  | inr g ↦ rw (le-ltb a b g, le-ltb b a h) (ap (λ (x : ℕ). round binary64 false x d) (let e : a - b ≡ b - a = omega arith in e))
]

high_sum : (a b d : ℕ) → b < a → sum binary64 true a false b d ≡ round binary64 true (a - b) d
unfolding sum
high_sum a b d h = rw (le-ltb a b (omega arith), lt-ltb b a h) refl

floor-plain : (n : ℕ) (y : Float) → Signed false y → AtMost n y → floor y ≡ round binary64 false (num y / den y) 1
floor-plain n nan s b = absurd b
floor-plain n (inf t) s b = absurd b
floor-plain n (fin true m e) s b = absurd (true≢false s)
floor-plain n (fin false m e) s b = refl

floor-minus : (n : ℕ) (y : Float) → Signed true y → AtMost n y → floor y ≡ round binary64 true ((num y + (den y - 1)) / den y) 1
floor-minus n nan s b = absurd b
floor-minus n (inf t) s b = absurd b
floor-minus n (fin false m e) s b = absurd (true≢false (sym s))
floor-minus n (fin true m e) s b = refl

module _ (n d : ℕ) (D : 0 < d) (b : n ≤ 1024 * d) where
  -- ---- x not below zero
  module _ where
    abbrev q : Float
    q = round binary64 false n d

    q-bound : AtMost 1024 q
    q-bound = at-most-round 1024 false n d (lit≤ tt) D b

    abbrev y : Float
    y = round binary64 false (num q * 2 + den q) (den q * 2)

    C : 0 < den q
    C = den_pos q

    y-fits : num q * 2 + den q ≤ 1025 * (den q * 2)
    y-fits = omega (arith, says 1024 q q-bound, C)

    y-bound : AtMost 1025 y
    y-bound = at-most-round 1025 false (num q * 2 + den q) (den q * 2) (lit≤ tt) (omega (arith, C)) y-fits

    abbrev a : ℕ
    a = num y / den y

    a-le : a ≤ 1025
    a-le = le_of_suc-le-suc ((div-lt_iff_lt-mul (den_pos y)).1 (omega (arith, says 1025 y y-bound, den_pos y)))

    plain-under : n * 1024 < (1024 * a + 512) * d
    plain-under =
        let h : num y < (a + 1) * den y = (div-lt_iff_lt-mul (den_pos y)).0 (omega arith) in
        let i : (num q * 2 + den q) * 1024 < 1024 * (a + 1) * (den q * 2) = back_below false (num q * 2 + den q) (den q * 2) (1024 * (a + 1)) (omega (arith, C)) (omega (arith, a-le)) (omega (arith, y-fits)) (omega arith) in
        back_below false n d (1024 * a + 512) D (omega (arith, a-le)) (omega arith) (omega arith)

    plain_over : (k : ℕ) → a ≡ suc k → (1024 * k + 511) * d < n * 1024
    plain_over k e =
        let h : a * den y ≤ num y = div-mul-le_self (num y) (den y) in
        let h' : suc k * den y ≤ num y = subst (λ (z : ℕ). z * den y ≤ num y) e h in
        let i : (1024 * k + 1023) * (den q * 2) < (num q * 2 + den q) * 1024 = back_above false (num q * 2 + den q) (den q * 2) (1024 * k + 1023) (omega (arith, C)) (omega (arith, a-le, e)) (omega (arith, y-fits)) (omega (arith, h', den_pos y)) in
        back_above false n d (1024 * k + 511) D (omega (arith, a-le, e)) (omega arith) (omega arith)

    pub reduced-plain : Reduced false n d (floor (add binary64 q one_half))
    reduced-plain =
        let k-is : floor (add binary64 q one_half) ≡ round binary64 false a 1 = ap floor (half-plain 1024 q (signed_round binary64 false n d) q-bound) ∙ floor-plain 1025 y (signed_round binary64 false (num q * 2 + den q) (den q * 2)) y-bound in
        (false, a, subst (λ (z : Float). HasValue z false a 1) (sym k-is) (round_whole binary64 false a (omega (arith, a-le))), inl refl, omega (arith, plain-under), over a refl)
      where
        over : (z : ℕ) → a ≡ z → 1024 * z * d ≤ n * 1024 + 514 * d
        over zero e = omega arith
        over (suc k) e = omega (arith, plain_over k e)

  -- ---- x below zero
  module _ where
    abbrev p : Float
    p = round binary64 true n d

    p-bound : AtMost 1024 p
    p-bound = at-most-round 1024 true n d (lit≤ tt) D b

    B : 0 < den p
    B = den_pos p

    p-half : add binary64 p one_half ≡ sum binary64 true (num p * 2) false (den p) (den p * 2)
    p-half = half-minus 1024 p (signed_round binary64 true n d) p-bound

    -- x / L is at most one half, and k is 0
    module _ (h : num p * 2 ≤ den p) where
      abbrev w : Float
      w = round binary64 false (den p - num p * 2) (den p * 2)

      w-bound : AtMost 1 w
      w-bound = at-most-round 1 false (den p - num p * 2) (den p * 2) (lit≤ tt) (omega (arith, B)) (omega arith)

      none : num w / den w ≡ 0
      none =
          let u : num w * 1024 ≤ 512 * den w = upto-says 512 w (upto-round false (den p - num p * 2) (den p * 2) 512 (omega (arith, B)) (lit≤ tt) (omega arith)) in
          div-eq_of_lt (omega (arith, u, den_pos w))

      reduced-none : Reduced true n d (floor (add binary64 p one_half))
      reduced-none =
          let k-is : floor (add binary64 p one_half) ≡ round binary64 false 0 1 =
          ap floor (p-half ∙ low_sum (num p * 2) (den p) (den p * 2) h) ∙ floor-plain 1 w (signed_round binary64 false (den p - num p * 2) (den p * 2)) w-bound ∙ ap (λ (z : ℕ). round binary64 false z 1) none in
          let l : n * 1024 < 513 * d = back_below true n d 513 D (lit≤ tt) (omega arith) (omega (arith, B)) in
          (false, 0, subst (λ (z : Float). HasValue z false 0 1) (sym k-is) (round_whole binary64 false 0 (lit≤ tt)), inr refl, omega arith, omega arith)

    -- it is more
    module _ (h : den p < num p * 2) where
      abbrev v : Float
      v = round binary64 true (num p * 2 - den p) (den p * 2)

      v-fits : num p * 2 - den p ≤ 1024 * (den p * 2)
      v-fits = omega (arith, says 1024 p p-bound)

      v-bound : AtMost 1024 v
      v-bound = at-most-round 1024 true (num p * 2 - den p) (den p * 2) (lit≤ tt) (omega (arith, B)) v-fits

      abbrev c : ℕ
      c = (num v + (den v - 1)) / den v

      c-parts : c * den v + (num v + (den v - 1)) % den v ≡ num v + (den v - 1)
      c-parts = div-add-mod' (num v + (den v - 1)) (den v)

      c-rest : (num v + (den v - 1)) % den v < den v
      c-rest = mod-lt (num v + (den v - 1)) (den_pos v)

      c-le : c ≤ 1025
      c-le = le_of_suc-le-suc ((div-lt_iff_lt-mul (den_pos v)).1 (omega (arith, says 1024 v v-bound, den_pos v)))

      minus-under : n * 1024 < (1024 * c + 513) * d
      minus-under =
          let i : (num p * 2 - den p) * 1024 < (1024 * c + 1) * (den p * 2) = back_below true (num p * 2 - den p) (den p * 2) (1024 * c + 1) (omega (arith, B)) (omega (arith, c-le)) (omega (arith, v-fits)) (omega (arith, c-parts, c-rest, den_pos v)) in
          back_below true n d (1024 * c + 513) D (omega (arith, c-le)) (omega arith) (omega arith)

      minus-over : (k : ℕ) → c ≡ suc k → (1024 * k + 512) * d < n * 1024
      minus-over k e =
          let g : suc k * den v + (num v + (den v - 1)) % den v ≡ num v + (den v - 1) = subst (λ (z : ℕ). z * den v + (num v + (den v - 1)) % den v ≡ num v + (den v - 1)) e c-parts in
          let i : 1024 * k * (den p * 2) < (num p * 2 - den p) * 1024 = back_above true (num p * 2 - den p) (den p * 2) (1024 * k) (omega (arith, B)) (omega (arith, c-le, e)) (omega (arith, v-fits)) (omega (arith, g, den_pos v)) in
          back_above true n d (1024 * k + 512) D (omega (arith, c-le, e)) (omega arith) (omega arith)

      reduced-some : Reduced true n d (floor (add binary64 p one_half))
      reduced-some =
          let k-is : floor (add binary64 p one_half) ≡ round binary64 true c 1 =
          ap floor (p-half ∙ high_sum (num p * 2) (den p) (den p * 2) h) ∙ floor-minus 1024 v (signed_round binary64 true (num p * 2 - den p) (den p * 2)) v-bound in
          (true, c, subst (λ (z : Float). HasValue z true c 1) (sym k-is) (round_whole binary64 true c (omega (arith, c-le))), inl refl, omega (arith, minus-under), over c refl)
        where
          over : (z : ℕ) → c ≡ z → 1024 * z * d ≤ n * 1024 + 514 * d
          over zero e = omega arith
          over (suc k) e = omega (arith, minus-over k e)

    pub reduced-minus : Reduced true n d (floor (add binary64 p one_half))
    reduced-minus = elim (lt-or-ge (den p) (num p * 2)) [ inl l ↦ reduced-some l | inr g ↦ reduced-none g ]
