-- r is at most 3 / 8 in size. Assumes nothing.
use mathlib.Core.Path.{◌≡◌, sym, ap, ◌∙◌, subst}
use mathlib.Core.Logic.{◌⊎◌, inl, inr}
use mathlib.Core.Bool.{Bool, true, false, not, cond, ◌&&◌, beq, true≢false}
use Prim.Native.Nat.{ℕ, ◌+◌, ◌-◌, ◌*◌, ◌/◌, ◌^◌, ◌≤◌, ◌<◌}
use native.Mathlib.Nat.{mul-one, mul_assoc, mul_right_comm, mul-pos, mul-le-mul_right, le_of_mul-le-mul_right, le_of_lt, div-mul-le_self, div-lt_iff_lt-mul}
use native.Mathlib.Omega.{arith}
use lib.IntN.{ℤ, negsuc}
use lib.Dec.{ltb, lit<, lit≤}
use lib.Ieee.{Float, nan, inf, fin, binary64, up, down, neg, round, sum, add, sub, mul, div}
use lib.Ieee.Fits.{down_pos}
use lib.Ieee.Exact.{HasValue}
use lib.Ieee.Scale.{round_same}
use lib.Ieee.Positive.{num, den, den_pos}
use Rattle.number_floats.specs.Whole.{one_half, floor}
use Rattle.number_floats.specs.inner.Bounds.{AtMost}
use Rattle.number_floats.proofs.Bound.{Signed, signed_round, at-most-round}
use Rattle.number_exp_tanh.specs.Exp.{L, k_of, r_with, r_of}
use Rattle.number_exp_tanh.proofs.exp.Range.{L-is}
use Rattle.number_exp_lanes.proofs.straight.Grid.{Upto, upto-round, upto-says, from-round}
use Rattle.number_exp_lanes.proofs.straight.Reduced.{Reduced, reduced-plain, reduced-minus}

-- L is l / g
abbrev pub l : ℕ
l = 0x16_2E42_FEFA_39EF

abbrev pub g : ℕ
g = 2 ^ 53

quotient_is : (s : Bool) (m : ℕ) (e : ℤ) → div binary64 (fin s m e) L ≡ round binary64 s (m * up e * g) (l * down e)
unfolding div
quotient_is false m e = ap (div binary64 (fin false m e)) L-is ∙ ap (λ (n : ℕ). round binary64 false (m * up e * g) (n * down e)) (mul-one l)
quotient_is true m e = ap (div binary64 (fin true m e)) L-is ∙ ap (λ (n : ℕ). round binary64 true (m * up e * g) (n * down e)) (mul-one l)

pub k-reduced : (s : Bool) (m : ℕ) (e : ℤ) → m * up e ≤ 104 * down e → Reduced s (m * up e * g) (l * down e) (k_of (fin s m e))
k-reduced false m e h =
    subst (λ (q : Float). Reduced false (m * up e * g) (l * down e) (floor (add binary64 q one_half))) (sym (quotient_is false m e))
    (reduced-plain (m * up e * g) (l * down e) (omega (arith, down_pos e)) (omega arith))
k-reduced true m e h =
    subst (λ (q : Float). Reduced true (m * up e * g) (l * down e) (floor (add binary64 q one_half))) (sym (quotient_is true m e))
    (reduced-minus (m * up e * g) (l * down e) (omega (arith, down_pos e)) (omega arith))

-- ---- k * L
crossed : (x k d u v : ℕ) → x * 1 ≡ k * d → x * (u * 1) * v ≡ k * u * (d * v)
crossed x k d u v h = ap (λ (n : ℕ). n * (u * 1) * v) (sym (mul-one x) ∙ h) ∙ ap (λ (n : ℕ). k * d * n * v) (mul-one u) ∙ ap (λ (n : ℕ). n * v) (mul_right_comm k d u) ∙ mul_assoc (k * u) d v

times-is : (k : Float) (t : Bool) (a : ℕ) → HasValue k t a 1 → mul binary64 k (fin false l (negsuc 52)) ≡ round binary64 t (a * l) g
unfolding mul
times-is nan t a v = absurd v
times-is (inf u) t a v = absurd v
times-is (fin false m e) true a v = absurd (true≢false (sym v.0))
times-is (fin true m e) false a v = absurd (true≢false v.0)
times-is (fin false m e) false a v = round_same binary64 false (m * up e * (l * 1)) (down e * g) (a * l) g (mul-pos (down_pos e) (lit< tt)) (lit< tt) (crossed (m * up e) a (down e) l g v.1)
times-is (fin true m e) true a v = round_same binary64 true (m * up e * (l * 1)) (down e * g) (a * l) g (mul-pos (down_pos e) (lit< tt)) (lit< tt) (crossed (m * up e) a (down e) l g v.1)

-- ---- x less that
sub_is : (n : ℕ) (s : Bool) (m : ℕ) (e : ℤ) (u : Bool) (t : Float) → Signed u t → AtMost n t → sub binary64 (fin s m e) t ≡ sum binary64 s (m * up e * den t) (not u) (num t * down e) (down e * den t)
unfolding sub add neg
sub_is n s m e u nan h b = absurd b
sub_is n s m e u (inf w) h b = absurd b
sub_is n s m e u (fin w k d) h b = ap (λ (z : Bool). sum binary64 s (m * up e * down d) (not z) (k * up d * down e) (down e * down d)) h

upto-cond : (j : ℕ) (b : Bool) (x y : Float) → Upto j x → Upto j y → Upto j (cond b x y)
upto-cond j true x y p q = p
upto-cond j false x y p q = q

module _ (a b d : ℕ) (D : 0 < d) (p : a * 1024 ≤ b * 1024 + 358 * d) (q : b * 1024 ≤ a * 1024 + 358 * d) where
  unlike-small : (s : Bool) → Upto 384 (sum binary64 s a (not s) b d)
  unfolding sum
  unlike-small false = upto-cond 384 (ltb a b) _ _ (upto-round true (b - a) d 384 D (lit≤ tt) (omega arith)) (upto-round false (a - b) d 384 D (lit≤ tt) (omega arith))
  unlike-small true = upto-cond 384 (ltb a b) _ _ (upto-round false (b - a) d 384 D (lit≤ tt) (omega arith)) (upto-round (ltb b a) (a - b) d 384 D (lit≤ tt) (omega arith))

  any_small : (s t : Bool) → (a + b) * 1024 ≤ 384 * d → Upto 384 (sum binary64 s a t b d)
  unfolding sum
  any_small s t h =
      upto-cond 384 (beq s t) _ _ (upto-round s (a + b) d 384 D (lit≤ tt) h)
      (upto-cond 384 (ltb a b) _ _ (upto-round t (b - a) d 384 D (lit≤ tt) (omega arith)) (upto-round (s && ltb b a) (a - b) d 384 D (lit≤ tt) (omega arith)))

-- x is a / c, and k * u / v is between j / 1024 and (j + 1) / 1024
module _ (a c k j u v : ℕ) (G : 0 < v) (w : 514 * u ≤ 357 * v) where
  under : a * v * 1024 ≤ (1024 * k + 514) * (u * c) → k * u * 1024 ≤ (j + 1) * v → a * 1024 ≤ (j + 358) * c
  under h i =
      let x : k * u * 1024 * c ≤ (j + 1) * v * c = mul-le-mul_right c i in
      let y : 514 * u * c ≤ 357 * v * c = mul-le-mul_right c w in
      le_of_mul-le-mul_right {k = v} (omega arith) G

  over : 1024 * k * (u * c) ≤ a * v * 1024 + 514 * (u * c) → j * v ≤ k * u * 1024 → j * c ≤ a * 1024 + 357 * c
  over h i =
      let x : j * v * c ≤ k * u * 1024 * c = mul-le-mul_right c i in
      let y : 514 * u * c ≤ 357 * v * c = mul-le-mul_right c w in
      le_of_mul-le-mul_right {k = v} (omega arith) G

few : (n d k : ℕ) → 0 < d → n ≤ 208 * d → 1024 * k * d ≤ n * 1024 + 514 * d → k ≤ 208
few n d k D h i = let x : 1024 * k ≤ 213506 = le_of_mul-le-mul_right {k = d} (omega arith) D in omega arith

module _ (s : Bool) (m : ℕ) (e : ℤ) (h : m * up e ≤ 104 * down e) (k : Float) (R : Reduced s (m * up e * g) (l * down e) k) where
  abbrev a : ℕ
  a = m * up e

  abbrev c : ℕ
  c = down e

  abbrev t : Bool
  t = R.0

  abbrev n : ℕ
  n = R.1

  abbrev j : ℕ
  j = n * l * 1024 / g

  n-le : n ≤ 208
  n-le = few (a * g) (l * c) n (omega (arith, down_pos e)) (omega arith) R.5

  abbrev z : Float
  z = round binary64 t (n * l) g

  z-bound : AtMost 1024 z
  z-bound = at-most-round 1024 t (n * l) g (lit≤ tt) (lit< tt) (omega (arith, n-le))

  j-low : j * g ≤ n * l * 1024
  j-low = div-mul-le_self (n * l * 1024) g

  j-high : n * l * 1024 < (j + 1) * g
  j-high = (div-lt_iff_lt-mul {k = g} (lit< tt)).0 (omega arith)

  j-le : j ≤ 2 ^ 30
  j-le = omega (arith, n-le, j-low)

  z-low : j * den z ≤ num z * 1024
  z-low = from-round t (n * l) g j (lit< tt) (omega (arith, j-le)) (omega (arith, n-le)) j-low

  z-high : num z * 1024 ≤ (j + 1) * den z
  z-high = upto-says (j + 1) z (upto-round t (n * l) g (j + 1) (lit< tt) (omega (arith, j-le)) (le_of_lt j-high))

  x-high : a * 1024 ≤ (j + 358) * c
  x-high = under a c n j l g (lit< tt) (lit≤ tt) R.4 (le_of_lt j-high)

  x-low : j * c ≤ a * 1024 + 357 * c
  x-low = over a c n j l g (lit< tt) (lit≤ tt) R.5 j-low

  sides : (a * den z * 1024 ≤ num z * c * 1024 + 358 * (c * den z)) × (num z * c * 1024 ≤ a * den z * 1024 + 358 * (c * den z))
  sides =
      let p : a * 1024 * den z ≤ (j + 358) * c * den z = mul-le-mul_right (den z) x-high in
      let q : j * den z * c ≤ num z * 1024 * c = mul-le-mul_right c z-low in
      let u : num z * 1024 * c ≤ (j + 1) * den z * c = mul-le-mul_right c z-high in
      let v : j * c * den z ≤ (a * 1024 + 357 * c) * den z = mul-le-mul_right (den z) x-low in
      (omega (arith, p, q), omega (arith, u, v))

  D : 0 < c * den z
  D = mul-pos (down_pos e) (den_pos z)

  difference : (t ≡ s) ⊎ (n ≡ 0) → Upto 384 (sum binary64 s (a * den z) (not t) (num z * c) (c * den z))
  difference (inl i) = subst (λ (u : Bool). Upto 384 (sum binary64 s (a * den z) (not u) (num z * c) (c * den z))) (sym i) (unlike-small (a * den z) (num z * c) (c * den z) D sides.0 sides.1 s)
  difference (inr i) =
      let J : j ≡ 0 = omega (arith, j-low) in
      let p : a * 1024 * den z ≤ (j + 358) * c * den z = mul-le-mul_right (den z) x-high in
      let u : num z * 1024 * c ≤ (j + 1) * den z * c = mul-le-mul_right c z-high in
      let p' : a * 1024 * den z ≤ (0 + 358) * c * den z = subst (λ (x : ℕ). a * 1024 * den z ≤ (x + 358) * c * den z) J p in
      let u' : num z * 1024 * c ≤ (0 + 1) * den z * c = subst (λ (x : ℕ). num z * 1024 * c ≤ (x + 1) * den z * c) J u in
      any_small (a * den z) (num z * c) (c * den z) D sides.0 sides.1 s (not t) (omega (arith, p', u'))

  rest-is : r_with (fin s m e) k ≡ sum binary64 s (a * den z) (not t) (num z * c) (c * den z)
  rest-is =
      ap (λ (y : Float). sub binary64 (fin s m e) (mul binary64 k y)) L-is ∙ ap (sub binary64 (fin s m e)) (times-is k t n R.2)
      ∙ sub_is 1024 s m e t z (signed_round binary64 t (n * l) g) z-bound

  small : Upto 384 (r_with (fin s m e) k)
  small = subst (Upto 384) (sym rest-is) (difference R.3)

pub rest-small : (x : Float) → AtMost 104 x → Upto 384 (r_of x)
rest-small nan h = absurd h
rest-small (inf s) h = absurd h
rest-small (fin s m e) h = small s m e h (k_of (fin s m e)) (k-reduced s m e h)
