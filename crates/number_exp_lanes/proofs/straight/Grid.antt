-- Rounding keeps which side of j / 1024 a fraction is on. Assumes nothing.
use mathlib.Core.Path.{◌≡◌, refl, sym, ap, ◌∙◌, subst}
use mathlib.Core.Logic.{inl, inr}
use mathlib.Core.Bool.{Bool, true, false, true≢false}
use Prim.Native.Nat.{ℕ, zero, suc, ◌*◌, ◌^◌, ◌≤◌, ◌<◌, zero-le}
use native.Mathlib.Nat.{zero-mul, mul_assoc, le_trans, le_of_eq, lt_of_lt_of_le, not-le_of_lt, zero-lt-suc}
use native.Mathlib.Omega.{arith}
use lib.Dec.{T, lt→ltb, lit<, lit≤}
use lib.Pow.{shl_lt}
use lib.Ieee.{Float, nan, inf, fin, binary64, up, down, neg, round, le}
use lib.Ieee.Exact.{HasValue, round_exact}
use lib.Ieee.Order.{round_mono}
use lib.Ieee.Positive.{num, den, positive, above, own_value, positive_of_value, values_of_le, above_of_le}
use Rattle.number_floats.specs.inner.Bounds.{AtMost}
use Rattle.number_floats.proofs.Ways.{lt-or-ge}
use Rattle.number_floats.proofs.Bound.{Signed, signed_round, neg-round, at-most-round}

grid-value : (j : ℕ) → j ≤ 2 ^ 40 → HasValue (round binary64 false j 1024) false j 1024
grid-value j h =
    let b : j < 2 ^ 53 = omega arith in
    round_exact binary64 false j 1024 j 1064 (lit< tt) b (lt_of_lt_of_le (shl_lt 53 1064 b) (lit≤ tt)) (let e : 2 ^ 1074 ≡ 2 ^ 1064 * 1024 = refl in ap (λ (n : ℕ). j * n) e ∙ sym (mul_assoc j (2 ^ 1064) 1024))

-- ---- z is at most j / 1024 in size, and a number
abbrev pub Upto : ℕ → Float → Type 0
Upto j nan = ⊥
Upto j (inf s) = ⊥
Upto j (fin s m e) = m * up e * 1024 ≤ j * down e

upto_le : (j : ℕ) (z y : Float) → Signed false z → HasValue y false j 1024 → T (le z y) → Upto j z
unfolding le
upto_le j nan y s v h = absurd s
upto_le j (inf true) y s v h = absurd (true≢false s)
upto_le j (inf false) nan s v h = absurd v
upto_le j (inf false) (inf t) s v h = absurd v
upto_le j (inf false) (fin t k d) s v h = absurd h
upto_le j (fin true m e) y s v h = absurd (true≢false s)
upto_le j (fin false zero e) y s v h = le_trans (le_of_eq (ap (λ (n : ℕ). n * 1024) (zero-mul (up e)))) zero-le
upto_le j (fin false (suc m) e) y s v h =
    let p : T (positive (fin false (suc m) e)) = lt→ltb 0 (suc m) (zero-lt-suc m) in
    values_of_le (fin false (suc m) e) y (suc m * up e) (down e) j 1024 p (finite y (above_of_le (fin false (suc m) e) y p h) v) (refl, refl) v h
  where
    finite : (y : Float) → T (above y) → HasValue y false j 1024 → T (positive y)
    finite nan a v = absurd v
    finite (inf t) a v = absurd v
    finite (fin true k d) a v = absurd a
    finite (fin false k d) a v = a

upto-neg : (j : ℕ) (z : Float) → Upto j z → Upto j (neg z)
unfolding neg
upto-neg j nan h = h
upto-neg j (inf s) h = h
upto-neg j (fin s m e) h = h

upto-plain : (n d j : ℕ) → 0 < d → j ≤ 2 ^ 40 → n * 1024 ≤ j * d → Upto j (round binary64 false n d)
upto-plain n d j D K h =
    upto_le j (round binary64 false n d) (round binary64 false j 1024) (signed_round binary64 false n d) (grid-value j K) (round_mono binary64 n d j 1024 D (lit< tt) h)

pub upto-round : (s : Bool) (n d j : ℕ) → 0 < d → j ≤ 2 ^ 40 → n * 1024 ≤ j * d → Upto j (round binary64 s n d)
upto-round false n d j D K h = upto-plain n d j D K h
upto-round true n d j D K h = subst (Upto j) (sym (neg-round binary64 n d)) (upto-neg j (round binary64 false n d) (upto-plain n d j D K h))

-- ---- and at least
from_le : (j : ℕ) (z : Float) → AtMost (2 ^ 30) z → T (le (round binary64 false j 1024) z) → j ≤ 2 ^ 40 → j * den z ≤ num z * 1024
from_le zero z b h K = le_trans (le_of_eq (zero-mul (den z))) zero-le
from_le (suc j) z b h K =
    let v = grid-value (suc j) K in
    let lo = round binary64 false (suc j) 1024 in
    let p : T (positive lo) = positive_of_value lo (suc j) 1024 v (zero-lt-suc j) in
    let q : T (positive z) = bounded z b (above_of_le lo z p h) in
    values_of_le lo z (suc j) 1024 (num z) (den z) p q v (own_value z q) h
  where
    bounded : (z : Float) → AtMost (2 ^ 30) z → T (above z) → T (positive z)
    bounded nan b a = absurd b
    bounded (inf s) b a = absurd b
    bounded (fin true m e) b a = absurd a
    bounded (fin false m e) b a = a

num-neg : (z : Float) → num (neg z) ≡ num z
unfolding neg
num-neg nan = refl
num-neg (inf s) = refl
num-neg (fin s m e) = refl

den-neg : (z : Float) → den (neg z) ≡ den z
unfolding neg
den-neg nan = refl
den-neg (inf s) = refl
den-neg (fin s m e) = refl

from-plain : (n d j : ℕ) → 0 < d → j ≤ 2 ^ 40 → n ≤ 2 ^ 30 * d → j * d ≤ n * 1024 → j * den (round binary64 false n d) ≤ num (round binary64 false n d) * 1024
from-plain n d j D K b h = from_le j (round binary64 false n d) (at-most-round (2 ^ 30) false n d (lit≤ tt) D b) (round_mono binary64 j 1024 n d (lit< tt) D h) K

pub from-round : (s : Bool) (n d j : ℕ) → 0 < d → j ≤ 2 ^ 40 → n ≤ 2 ^ 30 * d → j * d ≤ n * 1024 → j * den (round binary64 s n d) ≤ num (round binary64 s n d) * 1024
from-round false n d j D K b h = from-plain n d j D K b h
from-round true n d j D K b h =
    let z = round binary64 false n d in
    subst (λ (y : Float). j * den y ≤ num y * 1024) (sym (neg-round binary64 n d))
    (le_trans (le_of_eq (ap (λ (x : ℕ). j * x) (den-neg z))) (le_trans (from-plain n d j D K b h) (le_of_eq (ap (λ (x : ℕ). x * 1024) (sym (num-neg z))))))

pub upto-says : (j : ℕ) (z : Float) → Upto j z → num z * 1024 ≤ j * den z
upto-says j nan h = absurd h
upto-says j (inf s) h = absurd h
upto-says j (fin s m e) h = h

-- ---- what the rounded value says of the fraction
module _ (s : Bool) (n d j : ℕ) (D : 0 < d) (K : j ≤ 2 ^ 40) (b : n ≤ 2 ^ 30 * d) where
  abbrev z : Float
  z = round binary64 s n d

  pub back_below : num z * 1024 < j * den z → n * 1024 < j * d
  back_below h = elim (lt-or-ge (n * 1024) (j * d)) [ inl l ↦ l | inr g ↦ absurd (not-le_of_lt h (from-round s n d j D K b g)) ]

  pub back_above : j * den z < num z * 1024 → j * d < n * 1024
  back_above h = elim (lt-or-ge (j * d) (n * 1024)) [ inl l ↦ l | inr g ↦ absurd (not-le_of_lt h (upto-says j z (upto-round s n d j D K g))) ]
