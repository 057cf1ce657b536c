-- Operations on f64 values that are whole numbers give the whole number. Assumes nothing.
use Rattle.std.proofs.Common.{◌≡◌, ℕ, zero, suc, ◌+◌, ◌-◌, ◌*◌, ◌/◌, ◌^◌, ◌<◌, ◌≤◌, Bool, true, false, cond, T, eqb, ltb, ℤ, pos, sym, refl, ap, ◌∙◌, subst, true≢false, add-zero, mul-le-mul_right, mul_assoc, mul_comm, add-mul, mul-pos, one-mul, zero-mul, mul-one, mul_right_comm, mul-div_cancel, mul_left_comm, arith, lit≤, le→leb, lt→ltb, le-ltb, ne_eqb}
use native.Mathlib.Nat.{mul-sub, mul-mul-mul_comm, mul-add-div_right, div-eq_of_lt}
use lib.Ieee.{Float, nan, inf, fin, binary64, up, down, round, sum, add, sub, mul, div, neg, lt, of_int, of_bits, to_unsigned, in_float, fits}
use lib.Ieee.Fits.{down_pos, up_pos, of_int-fits}
use lib.Ieee.Exact.{HasValue}
use lib.Ieee.Scale.{round_same}
use lib.Ieee.Back.{round_whole, unsigned_back}
use Rattle.number_floats.specs.Whole.{floor}
use Rattle.number_floats.specs.Whole.{away}
use Rattle.picture_resize.specs.Resize.{whole}

-- x is the whole number a
abbrev pub Is : Float → ℕ → Type 0
Is x a = HasValue x false a 1

pub is_whole : (n : ℕ) → n ≤ 2 ^ 53 → Is (whole n) n
unfolding whole of_int
is_whole n h = round_whole binary64 false n h

-- a fraction with a whole value
rounds : (num den n : ℕ) → 0 < den → num ≡ n * den → round binary64 false num den ≡ whole n
unfolding whole of_int
rounds num den n d e = round_same binary64 false num den n 1 d (omega arith) (mul-one num ∙ e)

pub mul_is : (x y : Float) (a b : ℕ) → Is x a → Is y b → mul binary64 x y ≡ whole (a * b)
unfolding mul
mul_is (fin true m e) y a b v w = absurd (true≢false v.0)
mul_is (fin false m e) (fin true n d) a b v w = absurd (true≢false w.0)
mul_is (fin false m e) (fin false n d) a b v w =
    let p : m * up e ≡ a * down e = sym (mul-one (m * up e)) ∙ v.1 in
    let q : n * up d ≡ b * down d = sym (mul-one (n * up d)) ∙ w.1 in
    rounds (m * up e * (n * up d)) (down e * down d) (a * b) (mul-pos (down_pos e) (down_pos d))
    (ap (λ (k : ℕ). k * (n * up d)) p ∙ ap (λ (k : ℕ). a * down e * k) q ∙ mul-mul-mul_comm a (down e) b (down d))
mul_is nan y a b v w = elim v [ ]
mul_is (inf _) y a b v w = elim v [ ]
mul_is (fin false m e) nan a b v w = elim w [ ]
mul_is (fin false m e) (inf _) a b v w = elim w [ ]

pub add_is : (x y : Float) (a b : ℕ) → Is x a → Is y b → add binary64 x y ≡ whole (a + b)
unfolding add sum
add_is (fin true m e) y a b v w = absurd (true≢false v.0)
add_is (fin false m e) (fin true n d) a b v w = absurd (true≢false w.0)
add_is (fin false m e) (fin false n d) a b v w =
    let p : m * up e ≡ a * down e = sym (mul-one (m * up e)) ∙ v.1 in
    let q : n * up d ≡ b * down d = sym (mul-one (n * up d)) ∙ w.1 in
    rounds (m * up e * down d + n * up d * down e) (down e * down d) (a + b) (mul-pos (down_pos e) (down_pos d))
    (ap (λ (k : ℕ). k * down d + n * up d * down e) p ∙ ap (λ (k : ℕ). a * down e * down d + k * down e) q ∙ spread a b (down e) (down d))
  where
    spread : (a b E D : ℕ) → a * E * D + b * D * E ≡ (a + b) * (E * D)
    spread a b E D = ap (λ (k : ℕ). k + b * D * E) (mul_assoc a E D) ∙ ap (λ (k : ℕ). a * (E * D) + k) (mul_right_comm b D E ∙ mul_assoc b E D) ∙ sym (add-mul a b (E * D))
add_is nan y a b v w = elim v [ ]
add_is (inf _) y a b v w = elim v [ ]
add_is (fin false m e) nan a b v w = elim w [ ]
add_is (fin false m e) (inf _) a b v w = elim w [ ]

pub sub_is : (x y : Float) (a b : ℕ) → b ≤ a → Is x a → Is y b → sub binary64 x y ≡ whole (a - b)
unfolding sub add neg sum
sub_is (fin true m e) y a b h v w = absurd (true≢false v.0)
sub_is (fin false m e) (fin true n d) a b h v w = absurd (true≢false w.0)
sub_is (fin false m e) (fin false n d) a b h v w =
    let p : m * up e * down d ≡ a * (down e * down d) = ap (λ (k : ℕ). k * down d) (sym (mul-one (m * up e)) ∙ v.1) ∙ mul_assoc a (down e) (down d) in
    let q : n * up d * down e ≡ b * (down e * down d) = ap (λ (k : ℕ). k * down e) (sym (mul-one (n * up d)) ∙ w.1) ∙ mul_right_comm b (down d) (down e) ∙ mul_assoc b (down e) (down d) in
    let g : n * up d * down e ≤ m * up e * down d = omega (arith, mul-le-mul_right (down e * down d) h) in
    let l = le-ltb (m * up e * down d) (n * up d * down e) g in
    rw l (rounds (m * up e * down d - n * up d * down e) (down e * down d) (a - b) (mul-pos (down_pos e) (down_pos d)) (omega (arith, p, q, mul-sub (down e * down d) a b, mul_comm (a - b) (down e * down d), mul_comm a (down e * down d), mul_comm b (down e * down d))))
sub_is nan y a b h v w = elim v [ ]
sub_is (inf _) y a b h v w = elim v [ ]
sub_is (fin false m e) nan a b h v w = elim w [ ]
sub_is (fin false m e) (inf _) a b h v w = elim w [ ]

pub div_self : (x : Float) (a : ℕ) → 0 < a → Is x a → div binary64 x x ≡ whole 1
unfolding div
div_self (fin true m e) a h v = absurd (true≢false v.0)
div_self (fin false m e) a h v =
    let p : m * up e ≡ a * down e = sym (mul-one (m * up e)) ∙ v.1 in
    let q : 0 < m * up e * down e = mul-pos (subst (λ (k : ℕ). 0 < k) (sym p) (mul-pos h (down_pos e))) (down_pos e) in
    let z : eqb m 0 ≡ false = ne_eqb m 0 (λ g. omega (arith, mul-pos h (down_pos e), p, ap (λ (k : ℕ). k * up e) g, zero-mul (up e))) in
    rw z (rounds (m * up e * down e) (m * up e * down e) 1 q (sym (one-mul (m * up e * down e))))
div_self nan a h v = elim v [ ]
div_self (inf _) a h v = elim v [ ]

pub floor-is : (x : Float) (a : ℕ) → Is x a → floor x ≡ whole a
unfolding whole of_int
floor-is (fin true m e) a v = absurd (true≢false v.0)
floor-is (fin false m e) a v =
    ap (λ (k : ℕ). round binary64 false k 1) (ap (λ (k : ℕ). k / down e) (sym (mul-one (m * up e)) ∙ v.1) ∙ mul-div_cancel a (down_pos e))
floor-is nan a v = elim v [ ]
floor-is (inf _) a v = elim v [ ]

pub away-is : (x : Float) (a : ℕ) → Is x a → away x ≡ whole a
unfolding whole of_int
away-is (fin true m e) a v = absurd (true≢false v.0)
away-is (fin false m e) a v =
    ap (λ (k : ℕ). round binary64 false k 1)
    (ap (λ (k : ℕ). (2 * k + down e) / (2 * down e)) (sym (mul-one (m * up e)) ∙ v.1) ∙ half a (down e) (down_pos e))
  where
    half : (a c : ℕ) → 0 < c → (2 * (a * c) + c) / (2 * c) ≡ a
    half a c h =
        ap (λ (k : ℕ). (k + c) / (2 * c)) (mul_left_comm 2 a c)
        ∙ mul-add-div_right (omega arith) a c ∙ ap (λ (k : ℕ). a + k) (div-eq_of_lt (omega arith)) ∙ add-zero a
away-is nan a v = elim v [ ]
away-is (inf _) a v = elim v [ ]

-- not below
pub not-lt : (x y : Float) (a b : ℕ) → b ≤ a → Is x a → Is y b → lt x y ≡ false
unfolding lt
not-lt (fin true m e) y a b h v w = absurd (true≢false v.0)
not-lt (fin false m e) (fin true n d) a b h v w = absurd (true≢false w.0)
not-lt (fin false m e) (fin false n d) a b h v w =
    let p : m * up e * down d ≡ a * (down e * down d) = ap (λ (k : ℕ). k * down d) (sym (mul-one (m * up e)) ∙ v.1) ∙ mul_assoc a (down e) (down d) in
    let q : n * up d * down e ≡ b * (down e * down d) = ap (λ (k : ℕ). k * down e) (sym (mul-one (n * up d)) ∙ w.1) ∙ mul_right_comm b (down d) (down e) ∙ mul_assoc b (down e) (down d) in
    le-ltb (m * up e * down d) (n * up d * down e) (omega (arith, mul-le-mul_right (down e * down d) h))
not-lt nan y a b h v w = elim v [ ]
not-lt (inf _) y a b h v w = elim v [ ]
not-lt (fin false m e) nan a b h v w = elim w [ ]
not-lt (fin false m e) (inf _) a b h v w = elim w [ ]

pub cast-back : (w n : ℕ) → n ≤ 2 ^ 53 → n < 2 ^ w → to_unsigned w (whole n) ≡ n
unfolding whole in_float
cast-back w n h l = (unsigned_back binary64 w n (le→leb n (2 ^ 53) h) l).1
