-- An f64 and one half have no sum that is −0. Assumes nothing.
use mathlib.Core.Path.{◌≡◌, sym, subst}
use mathlib.Core.Logic.{inl, inr}
use mathlib.Core.Bool.{true≢false, Bool, true, false, cond}
use Prim.Native.Nat.{ℕ, zero, suc, ◌+◌, ◌-◌, ◌*◌, ◌^◌, ◌≤◌, ◌<◌}
use native.Mathlib.Nat.{mul-pos, zero-mul}
use native.Mathlib.Omega.{arith}
use borrow.Author.Tests.{lt-ltb, le-ltb}
use lib.IntN.{ℤ, pos, negsuc}
use lib.Dec.{T, ltb, ltb→lt, lit<, lit≤}
use lib.Ieee.{Float, nan, inf, fin, binary64, up, down, neg, odd, units, round, sum, add, fits, size, of_bits}
use lib.Ieee.Fits.{down_pos, up_pos}
use lib.Ieee.Order.{round_mono}
use lib.Ieee.Positive.{above, positive, above_of_le}
use Rattle.number_floats.specs.Whole.{one_half}
use Rattle.number_floats.proofs.Ways.{lt-or-ge}
use Rattle.number_floats.proofs.Bound.{Signed, signed_round, neg-round}
use Rattle.number_floats.proofs.whole.Floors.{digits_lt}
use Rattle.number_exp_lanes.specs.inner.Near.{NoMinusZero}

-- ---- rounded with the sign +, and a number above zero with the sign −
plain : (z : Float) → Signed false z → NoMinusZero z
plain nan h = tt
plain (inf s) h = tt
plain (fin false m e) h = tt
plain (fin true m e) h = absurd (true≢false h)

plus : (a c : ℕ) → NoMinusZero (round binary64 false a c)
plus a c = plain (round binary64 false a c) (signed_round binary64 false a c)

turned : (z : Float) → T (above z) → NoMinusZero (neg z)
unfolding neg
turned nan h = absurd h
turned (inf s) h = tt
turned (fin true m e) h = absurd h
turned (fin false m e) h = mul-pos (ltb→lt 0 m h) (up_pos e)

-- 2 ^ -60, which is not zero
tiny : T (positive (round binary64 false 1 (2 ^ 60)))
unfolding round units odd size
tiny = tt

minus : (a c : ℕ) → 0 < a → 0 < c → c ≤ 2 ^ 60 → NoMinusZero (round binary64 true a c)
minus a c A C h =
    let l : 1 * c ≤ a * 2 ^ 60 = omega arith in
    subst NoMinusZero (sym (neg-round binary64 a c))
    (turned (round binary64 false a c) (above_of_le (round binary64 false 1 (2 ^ 60)) (round binary64 false a c) tiny (round_mono binary64 1 (2 ^ 60) a c (lit< tt) C l)))

-- ---- b / c less a / c
either : (t : Bool) (x y : Float) → NoMinusZero x → NoMinusZero y → NoMinusZero (cond t x y)
either true x y p q = p
either false x y p q = q

more : (a b c : ℕ) → b < a → 0 < c → c ≤ 2 ^ 60 → NoMinusZero (sum binary64 true a false b c)
unfolding sum
more a b c l C h = rw (le-ltb a b (omega arith), lt-ltb b a l) (minus (a - b) c (omega arith) C h)

not_more : (a b c : ℕ) → a ≤ b → NoMinusZero (sum binary64 true a false b c)
unfolding sum
not_more a b c h = rw (le-ltb b a h) (either (ltb a b) (round binary64 false (b - a) c) (round binary64 false (a - b) c) (plus (b - a) c) (plus (a - b) c))

-- ---- -q above one half in size has no digit below 2 ^ -53
coarse : (m : ℕ) (e : ℤ) → T (fits binary64 (fin true m e)) → 1 * 1 * down e < m * up e * 2 → down e * 2 ≤ 2 ^ 60
coarse zero e f l = absurd (let z : 0 * up e ≡ 0 = zero-mul (up e) in omega arith)
coarse (suc m) (pos j) f l = lit≤ tt
coarse (suc m) (negsuc j) f l = omega (arith, digits_lt true m (negsuc j) f)

pub no-minus-zero : (q : Float) → T (fits binary64 q) → NoMinusZero (add binary64 q one_half)
unfolding add of_bits
no-minus-zero nan f = tt
no-minus-zero (inf s) f = tt
no-minus-zero (fin false m e) f = unfold sum in plus (m * up e * 2 + 1 * 1 * down e) (down e * 2)
no-minus-zero (fin true m e) f = elim (lt-or-ge (1 * 1 * down e) (m * up e * 2)) [
  | inl l ↦ more (m * up e * 2) (1 * 1 * down e) (down e * 2) l (omega (arith, down_pos e)) (coarse m e f l)
  | inr g ↦ not_more (m * up e * 2) (1 * 1 * down e) (down e * 2) g
]
