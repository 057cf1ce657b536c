-- Of finite values above zero: a quotient grows with its dividend, a sum with each part, and a narrowed value with the value.
-- Assumes nothing.
use Rattle.std.proofs.Common.{◌≡◌, ℕ, ◌+◌, ◌*◌, ◌<◌, ◌≤◌, true, false, T, sym, refl, ◌∙◌, subst, le_trans, le_of_eq, mul-le-mul_right, mul_assoc, mul_comm, add-mul, mul-pos, mul_left_comm, arith, ltb→lt, ne_eqb}
use native.Mathlib.Nat.{mul-mul-mul_comm}
use lib.Ieee.{Float, nan, inf, fin, Format, binary32, round, sum, add, div, le}
use lib.Ieee.Fits.{up_pos}
use lib.Ieee.Order.{round_mono}
use lib.Ieee.Positive.{num, den, positive, den_pos, le→cross}
use Rattle.number_floats.specs.Narrow.{narrow}

num_pos : (x : Float) → T (positive x) → 0 < num x
num_pos nan p = absurd p
num_pos (inf s) p = absurd p
num_pos (fin true m e) p = absurd p
num_pos (fin false m e) p = mul-pos (ltb→lt 0 m p) (up_pos e)

div_is : (f : Format) (x y : Float) → T (positive x) → T (positive y) → div f x y ≡ round f false (num x * den y) (num y * den x)
unfolding div
div_is f nan y p q = absurd p
div_is f (inf s) y p q = absurd p
div_is f (fin true m e) y p q = absurd p
div_is f (fin false m e) nan p q = absurd q
div_is f (fin false m e) (inf t) p q = absurd q
div_is f (fin false m e) (fin true n d) p q = absurd q
div_is f (fin false m e) (fin false n d) p q = let h : 0 < n = ltb→lt 0 n q in rw (ne_eqb n 0 (λ z. omega arith)) refl

pub div_mono : (f : Format) (x x' y : Float) → T (positive x) → T (positive x') → T (positive y) → T (le x x') → T (le (div f x y) (div f x' y))
div_mono f x x' y p p' q h =
    subst (λ (z : Float). T (le z (div f x' y))) (sym (div_is f x y p q))
    (subst (λ (z : Float). T (le (round f false (num x * den y) (num y * den x)) z)) (sym (div_is f x' y p' q))
    (round_mono f (num x * den y) (num y * den x) (num x' * den y) (num y * den x') (mul-pos (num_pos y q) (den_pos x)) (mul-pos (num_pos y q) (den_pos x'))
    (le_trans (le_of_eq (mul-mul-mul_comm (num x) (den y) (num y) (den x') ∙ turned (num x) (num y) (den y) (den x')))
    (le_trans (mul-le-mul_right (den y * num y) (le→cross x x' p p' h)) (le_of_eq (turned' (num x') (den x) (den y) (num y)))))))
  where
    turned : (a b c d : ℕ) → a * b * (c * d) ≡ a * d * (c * b)
    turned a b c d = simp (mul_assoc, mul_comm, mul_left_comm)

    turned' : (a b c d : ℕ) → a * b * (c * d) ≡ a * c * (d * b)
    turned' a b c d = simp (mul_assoc, mul_comm, mul_left_comm)

add_is : (f : Format) (x y : Float) → T (positive x) → T (positive y) → add f x y ≡ round f false (num x * den y + num y * den x) (den x * den y)
unfolding add sum
add_is f nan y p q = absurd p
add_is f (inf s) y p q = absurd p
add_is f (fin true m e) y p q = absurd p
add_is f (fin false m e) nan p q = absurd q
add_is f (fin false m e) (inf t) p q = absurd q
add_is f (fin false m e) (fin true n d) p q = absurd q
add_is f (fin false m e) (fin false n d) p q = refl

-- a / x ≤ c / z and b / y ≤ d / w, added
grow : (a x b y c z d w : ℕ) → a * z ≤ c * x → b * w ≤ d * y → (a * y + b * x) * (z * w) ≤ (c * w + d * z) * (x * y)
grow a x b y c z d w h k =
    let u : a * y * (z * w) ≤ c * w * (x * y) = le_trans (le_of_eq (l a y z w)) (le_trans (mul-le-mul_right (y * w) h) (le_of_eq (r c x y w))) in
    let v : b * x * (z * w) ≤ d * z * (x * y) = le_trans (le_of_eq (l' b x z w)) (le_trans (mul-le-mul_right (x * z) k) (le_of_eq (r' d y x z))) in
    omega (arith, add-mul (a * y) (b * x) (z * w), add-mul (c * w) (d * z) (x * y), u, v)
  where
    l : (a y z w : ℕ) → a * y * (z * w) ≡ a * z * (y * w)
    l a y z w = simp (mul_assoc, mul_comm, mul_left_comm)

    r : (c x y w : ℕ) → c * x * (y * w) ≡ c * w * (x * y)
    r c x y w = simp (mul_assoc, mul_comm, mul_left_comm)

    l' : (b x z w : ℕ) → b * x * (z * w) ≡ b * w * (x * z)
    l' b x z w = simp (mul_assoc, mul_comm, mul_left_comm)

    r' : (d y x z : ℕ) → d * y * (x * z) ≡ d * z * (x * y)
    r' d y x z = simp (mul_assoc, mul_comm, mul_left_comm)

pub add-mono : (f : Format) (x x' y y' : Float) → T (positive x) → T (positive x') → T (positive y) → T (positive y') → T (le x x') → T (le y y') → T (le (add f x y) (add f x' y'))
add-mono f x x' y y' p p' q q' h k =
    subst (λ (z : Float). T (le z (add f x' y'))) (sym (add_is f x y p q))
    (subst (λ (z : Float). T (le (round f false (num x * den y + num y * den x) (den x * den y)) z)) (sym (add_is f x' y' p' q'))
    (round_mono f (num x * den y + num y * den x) (den x * den y) (num x' * den y' + num y' * den x') (den x' * den y') (mul-pos (den_pos x) (den_pos y)) (mul-pos (den_pos x') (den_pos y'))
    (grow (num x) (den x) (num y) (den y) (num x') (den x') (num y') (den y') (le→cross x x' p p' h) (le→cross y y' q q' k))))

narrow-is : (x : Float) → T (positive x) → narrow x ≡ round binary32 false (num x) (den x)
unfolding narrow
narrow-is nan p = absurd p
narrow-is (inf s) p = absurd p
narrow-is (fin true m e) p = absurd p
narrow-is (fin false m e) p = refl

pub narrow-mono : (x x' : Float) → T (positive x) → T (positive x') → T (le x x') → T (le (narrow x) (narrow x'))
narrow-mono x x' p p' h =
    subst (λ (z : Float). T (le z (narrow x'))) (sym (narrow-is x p))
    (subst (λ (z : Float). T (le (round binary32 false (num x) (den x)) z)) (sym (narrow-is x' p'))
    (round_mono binary32 (num x) (den x) (num x') (den x') (den_pos x) (den_pos x') (le→cross x x' p p' h)))
