-- What is said of numbers and one more behind them. Assumes nothing.
use Rattle.std.specs.Prelude.{Option, None, Some, SomeIff, unwrap_or}
use mathlib.Core.Path.{◌≡◌, refl, sym, ap, ◌∙◌}
use mathlib.Core.Bool.{Bool, true, false}
use mathlib.Core.List.{List, [], ◌∷◌, ◌++◌}
use Prim.Native.Nat.{ℕ, zero, suc, ◌+◌, ◌*◌, ◌^◌, ◌≤◌, ◌<◌}
use native.Mathlib.Nat.{zero-mul, mul-zero, mul_assoc, le-mul_of_pos_right}
use native.Mathlib.Omega.{arith}
use lib.Dec.{ltb}
use lib.ListN.{length, length-append}
use borrow.Author.Tests.{lt-ltb, le-ltb, ltb-true, ltb-false}
use Rattle.json_lists.specs.declared.Sizes.{Sizes}
use Rattle.json_lists.specs.Lists.{product, held, sums_of}

-- ---- products

pub held_in : (n : ℕ) → n < 2 ^ 64 → held n ≡ n
unfolding held
held_in n h = rw (lt-ltb n (2 ^ 64) h)

pub held_out : (n : ℕ) → 2 ^ 64 ≤ n → held n ≡ 0
unfolding held
held_out n h = rw (le-ltb n (2 ^ 64) h)

-- a product that has passed the limit stays 0, and one that would come back below it does so by a 0
pub held-times : (a n : ℕ) → held (held a * n) ≡ held (a * n)
held-times a n = of (ltb a (2 ^ 64)) refl n
  where
    of : (t : Bool) → ltb a (2 ^ 64) ≡ t → (n : ℕ) → held (held a * n) ≡ held (a * n)
    of true e n = rw (held_in a (ltb-true a (2 ^ 64) e)) refl
    of false e zero = rw (mul-zero (held a), mul-zero a) refl
    of false e (suc k) =
        let h : 2 ^ 64 ≤ a = ltb-false a (2 ^ 64) e in
        let w : a ≤ a * suc k = le-mul_of_pos_right a (omega arith) in
        rw (held_out a h, zero-mul (suc k), held_out (a * suc k) (omega arith)) (held_in 0 (omega arith))

module _ (a b : ℕ) where
  -- a product that fits, and one that does not
  pub held-checked : (r : Option ℕ) → SomeIff r (a * b < 2 ^ 64) (a * b) → unwrap_or r 0 ≡ held (a * b)
  held-checked None h = sym (held_out (a * b) (omega arith))
  held-checked (Some x) h = h.1 ∙ sym (held_in (a * b) h.0)

product-behind : (ns : List ℕ) (n : ℕ) → product (ns ++ (n ∷ [])) ≡ product ns * n
unfolding product
product-behind [] n = omega arith
product-behind (m ∷ ns) n = rw (product-behind ns n) (sym (mul_assoc m (product ns) n))

-- ---- one number more

product_is : (ns : List ℕ) (n q p : ℕ) → q ≡ held (product ns) → p ≡ held (q * n) → held (product (ns ++ (n ∷ []))) ≡ p
product_is ns n q p e h = rw (product-behind ns n) (sym (h ∙ rw e (held-times (product ns) n)))

-- the number n behind those that t is said of: f and g are in front then, and p is the product
pub grown :
    (t : Sizes) (n p f g : ℕ) (ns : List ℕ) →
    t ≡ sums_of ns →
    (t.count ≡ 0 → f ≡ n) →
    ((t.count ≡ 0 → ⊥) → f ≡ t.first) →
    (t.count ≡ 1 → g ≡ n) →
    ((t.count ≡ 1 → ⊥) → g ≡ t.second) →
    p ≡ held (t.product * n) →
    record { count = t.count + 1; first = f; second = g; product = p } ≡ sums_of (ns ++ (n ∷ []))
unfolding sums_of
grown t n p f g [] e a b c d h =
    let k : t.count ≡ 0 = ap (λ (s : Sizes). s.count) e in
    rw (k, a k, d (λ z. omega (arith, k, z)) ∙ ap (λ (s : Sizes). s.second) e, product_is [] n t.product p (ap (λ (s : Sizes). s.product) e) h) refl
grown t n p f g (x ∷ []) e a b c d h =
    let k : t.count ≡ 1 = ap (λ (s : Sizes). s.count) e in
    rw (k, b (λ z. omega (arith, k, z)) ∙ ap (λ (s : Sizes). s.first) e, c k, product_is (x ∷ []) n t.product p (ap (λ (s : Sizes). s.product) e) h) refl
grown t n p f g (x ∷ (y ∷ ns)) e a b c d h =
    let k : t.count ≡ suc (suc (length ns)) = ap (λ (s : Sizes). s.count) e in
    let w : t.count + 1 ≡ suc (suc (length (ns ++ (n ∷ [])))) = simp length-append (omega (arith, k)) in
    rw (w, b (λ z. omega (arith, k, z)) ∙ ap (λ (s : Sizes). s.first) e, d (λ z. omega (arith, k, z)) ∙ ap (λ (s : Sizes). s.second) e, product_is (x ∷ (y ∷ ns)) n t.product p (ap (λ (s : Sizes). s.product) e) h) refl
