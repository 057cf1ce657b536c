-- What the tests of `exp_f32` and `tanh_f32` say of x, and so of k. Assumes nothing.
use Rattle.std.proofs.Common.{◌≡◌, ℕ, ◌+◌, ◌*◌, ◌^◌, ◌<◌, ◌≤◌, Bool, true, false, not, ◌&&◌, ◌||◌, T, ltb, pos, negsuc, sym, refl, ap, ◌∙◌, subst, true≢false, mul-le-mul_right, arith, lit<, lit≤, nltb→le}
use lib.Ieee.{Float, nan, inf, fin, binary32, binary64, up, down, neg, add, div, ne, le, is_nan, of_bits}
use lib.Ieee.Compare.{nan_differs}
use Rattle.number_floats.specs.Whole.{one_half}
use Rattle.number_floats.specs.inner.Bounds.{AtMost}
use borrow.Author.Tests.{not-true}
use Rattle.number_floats.specs.Narrow.{narrow}
use Rattle.number_exp_tanh.specs.Exp.{L, k_of, F, top, bottom, E}
use Rattle.number_exp_tanh.specs.inner.Between.{between}
use Rattle.buffers.proofs.Lists.{and_left, and_right}
use Rattle.number_floats.proofs.Bound.{at-most-add, at-most-div, at-most-floor}

-- a test `a < b or a = b` that failed
neither : (a b : ℕ) (r : Bool) → ltb a b || r ≡ false → b ≤ a
neither a b r h = go (ltb a b) (nltb→le a b) h
  where
    go : (t : Bool) → (T (not t) → b ≤ a) → t || r ≡ false → b ≤ a
    go true f h = absurd (true≢false h)
    go false f h = f tt

-- x is below a * 2 ^ i and above -b * 2 ^ j
pub in-range : (n : ℕ) (a i b j : ℕ) (x : Float) → a * 2 ^ i ≤ n → b * 2 ^ j ≤ n → ne x x ≡ false → le (fin false a (pos i)) x ≡ false → le x (fin true b (pos j)) ≡ false → AtMost n x
unfolding le
in-range n a i b j nan p q t h l = absurd (true≢false (sym nan_differs ∙ t))
in-range n a i b j (inf true) p q t h l = absurd (true≢false l)
in-range n a i b j (inf false) p q t h l = absurd (true≢false h)
in-range n a i b j (fin false m e) p q t h l =
    let k : m * up e * 1 ≤ a * 2 ^ i * down e = neither (a * 2 ^ i * down e) (m * up e * 1) _ h in
    let w : a * 2 ^ i * down e ≤ n * down e = mul-le-mul_right (down e) p in
    omega arith
in-range n a i b j (fin true m e) p q t h l =
    let k : m * up e * 1 ≤ b * 2 ^ j * down e = neither (b * 2 ^ j * down e) (m * up e * 1) _ l in
    let w : b * 2 ^ j * down e ≤ n * down e = mul-le-mul_right (down e) q in
    omega arith

pub L-is : L ≡ fin false 0x16_2E42_FEFA_39EF (negsuc 52)
unfolding of_bits
L-is = refl

half_at_most : AtMost 1 one_half
unfolding of_bits
half_at_most = lit≤ tt

quotient : (x : Float) → AtMost 104 x → AtMost 151 (div binary64 x L)
quotient x h = subst (λ (z : Float). AtMost 151 (div binary64 x z)) (sym L-is) (at-most-div 151 (lit≤ tt) 104 x false 0x16_2E42_FEFA_39EF (negsuc 52) tt (lit< tt) (lit≤ tt) h)

pub sum-at-most : (x : Float) → AtMost 104 x → AtMost 152 (add binary64 (div binary64 x L) one_half)
sum-at-most x h = at-most-add 152 (lit≤ tt) 151 1 (div binary64 x L) one_half (lit≤ tt) (quotient x h) half_at_most

pub k-at-most : (x : Float) → AtMost 104 x → AtMost 152 (k_of x)
k-at-most x h = at-most-floor 152 (lit≤ tt) (add binary64 (div binary64 x L) one_half) (sum-at-most x h)

pub wider : (i n : ℕ) (x : Float) → i ≤ n → AtMost i x → AtMost n x
wider i n nan l h = h
wider i n (inf s) l h = h
wider i n (fin s m e) l h = let w : i * down e ≤ n * down e = mul-le-mul_right (down e) l in omega arith

-- so that 2 ^ k is an f64
pub k-fits : (x : Float) → AtMost 104 x → AtMost 1000 (k_of x)
k-fits x h = wider 152 1000 (k_of x) (lit≤ tt) (k-at-most x h)

-- between the ends E is F narrowed, and x is at most 104 in size
pub between-says : (x : Float) → between x ≡ true → AtMost 104 x × (E x ≡ narrow (F x))
unfolding E of_bits neg
between-says x h =
    let a = not-true (ne x x) (and_left (not (ne x x)) _ h) in
    let g = and_right (not (ne x x)) _ h in
    let b = not-true (le top x) (and_left (not (le top x)) _ g) in
    let d = not-true (le x bottom) (and_right (not (le top x)) _ g) in
    (in-range 104 89 0 13 3 x (lit≤ tt) (lit≤ tt) a b d, rw (a, b, d))
