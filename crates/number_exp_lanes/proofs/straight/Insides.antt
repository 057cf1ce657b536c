-- Inside, x lies between the ends, and its k is whole, as between them. Assumes nothing.
use mathlib.Core.Path.{◌≡◌, refl, sym, ap}
use mathlib.Core.Bool.{Bool, true, false, not, ◌&&◌, ◌||◌, true≢false}
use Prim.Native.Nat.{ℕ, ◌+◌, ◌-◌, ◌*◌, ◌/◌, ◌^◌, ◌≤◌, ◌<◌}
use native.Mathlib.Nat.{le_of_lt, le_of_eq, le_of_suc-le-suc, div-lt_iff_lt-mul}
use native.Mathlib.Omega.{arith}
use borrow.Author.Tests.{le-ltb, ne_eqb, eq-eqb, ltb-true, eqb-true}
use lib.IntN.{ℤ}
use lib.Dec.{T, ltb, eqb, lit≤}
use lib.Ieee.{Float, nan, inf, fin, binary32, binary64, fits, is_nan, up, down, neg, add, div, le, lt, eq, ne, of_bits}
use lib.Ieee.Fits.{down_pos, and_i, fits_widens}
use lib.Ieee.Back.{round_whole}
use Rattle.number_floats.specs.inner.Bounds.{AtMost}
use Rattle.number_floats.specs.Whole.{one_half, floor}
use Rattle.number_exp_tanh.specs.Exp.{L, k_of}
use Rattle.number_exp_tanh.specs.inner.Between.{between}
use Rattle.number_exp_lanes.specs.inner.Near.{inside, WholeUpTo}
use Rattle.number_exp_tanh.proofs.exp.Range.{between-says, sum-at-most, wider}
use Rattle.buffers.proofs.Lists.{and_left, and_right, and_both}

-- a test `a < b or a = b`, where q says whether a = b, passed and failed
passed : (a b : ℕ) (q r : Bool) → (q ≡ true → a ≡ b) → ltb a b || (q && r) ≡ true → a ≤ b
passed a b q r g h = go (ltb a b) q (ltb-true a b) g h
  where
    go : (p q : Bool) → (p ≡ true → a < b) → (q ≡ true → a ≡ b) → p || (q && r) ≡ true → a ≤ b
    go true q f g h = le_of_lt (f refl)
    go false true f g h = le_of_eq (g refl)
    go false false f g h = absurd (true≢false (sym h))

failed : (a b : ℕ) (q r : Bool) → b < a → q ≡ false → ltb a b || (q && r) ≡ false
failed a b q r h e = rw (le-ltb a b (le_of_lt h), e) refl

apart : (a b : ℕ) (r : Bool) → (a ≡ b → ⊥) → not (eqb a b && r) ≡ true
apart a b r h = rw (ne_eqb a b h) refl

itself : (a : ℕ) → not (not (eqb a a && true)) ≡ true
itself a = rw (eq-eqb a a refl) refl

-- the ends, by their signs
abbrev pub ends : Bool → ℕ
ends false = 88
ends true = 86

pub inside-size : (s : Bool) (m : ℕ) (e : ℤ) → inside (fin s m e) ≡ true → m * up e ≤ ends s * down e
unfolding le lt eq of_bits neg
inside-size false m e h =
    let a = m * up e * 1 in
    let b = ends false * down e in
    let l : a ≤ b = passed a b (eqb a b) true (eqb-true a b) (and_right (ltb 0 (86 * down e + a) || (eqb (86 * down e) a && eqb (86 * down e) 0)) _ h) in
    omega arith
inside-size true m e h =
    let a = m * up e * 1 in
    let b = ends true * down e in
    let l : a ≤ b = passed a b (eqb b a) true (λ z. sym (eqb-true b a z)) (and_left (ltb a b || (eqb b a && true)) _ h) in
    omega arith

pub inside-between : (x : Float) → inside x ≡ true → between x ≡ true
unfolding le lt eq ne of_bits neg
inside-between nan h = absurd (true≢false (sym h))
inside-between (inf true) h = absurd (true≢false (sym h))
inside-between (inf false) h = absurd (true≢false (sym h))
inside-between (fin false m e) h =
    let d = down_pos e in
    let a = m * up e * 1 in
    let i = inside-size false m e h in
    and_both _ _ (itself (m * up e * down e))
    (and_both _ _ (ap not (failed (89 * 1 * down e) a (eqb (89 * 1 * down e) a) true (omega arith) (ne_eqb (89 * 1 * down e) a (λ z. omega arith)))) (apart a (104 * down e) (eqb a 0) (λ z. omega arith)))
inside-between (fin true m e) h =
    let d = down_pos e in
    let a = m * up e * 1 in
    let i = inside-size true m e h in
    and_both _ _ (itself (m * up e * down e))
    (and_both _ _ (apart (89 * 1 * down e) a (eqb (89 * 1 * down e) 0) (λ z. omega arith)) (ap not (failed (104 * down e) a (eqb a (104 * down e)) true (omega arith) (ne_eqb a (104 * down e) (λ z. omega arith)))))

-- so x is a number, and at most 104 in size
pub inside-bounded : (x : Float) → inside x ≡ true → AtMost 104 x
inside-bounded x h = (between-says x (inside-between x h)).0

inside-number : (x : Float) → inside x ≡ true → T (not (is_nan x))
unfolding is_nan
inside-number nan h = absurd (inside-bounded nan h)
inside-number (inf s) h = tt
inside-number (fin s m e) h = tt

-- it is widened as it is
pub inside-widens : (x : Float) → T (fits binary32 x) → inside x ≡ true → T (fits binary64 x && not (is_nan x))
inside-widens x f h = and_i (fits binary64 x) (not (is_nan x)) (fits_widens x f) (inside-number x h)

-- ---- k
floor-whole : (n : ℕ) (y : Float) → n ≤ 2 ^ 53 → AtMost n y → WholeUpTo n (floor y)
floor-whole n nan N h = absurd h
floor-whole n (inf s) N h = absurd h
floor-whole n (fin false m e) N h =
    let C = down_pos e in
    let l : m * up e / down e ≤ n = le_of_suc-le-suc ((div-lt_iff_lt-mul C).1 (omega arith)) in
    (false, m * up e / down e, round_whole binary64 false (m * up e / down e) (omega arith), l)
floor-whole n (fin true m e) N h =
    let C = down_pos e in
    let l : (m * up e + (down e - 1)) / down e ≤ n = le_of_suc-le-suc ((div-lt_iff_lt-mul C).1 (omega arith)) in
    (true, (m * up e + (down e - 1)) / down e, round_whole binary64 true ((m * up e + (down e - 1)) / down e) (omega arith), l)

pub k-whole : (x : Float) → AtMost 104 x → WholeUpTo 1000 (k_of x)
k-whole x h =
    let y = add binary64 (div binary64 x L) one_half in
    floor-whole 1000 y (lit≤ tt) (wider 152 1000 y (lit≤ tt) (sum-at-most x h))
