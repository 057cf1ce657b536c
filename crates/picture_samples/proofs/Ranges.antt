-- A test of every number of a range, and a float's own test. Assumes nothing.
use Rattle.std.proofs.Common.{◌≡◌, ℕ, zero, suc, ◌+◌, ◌-◌, Bool, ◌&&◌, refl, sym, ap, ◌∙◌, arith}
use Rattle.std.specs.Float.{Float, nan, inf, fin, float_is_finite}
use Rattle.std.specs.Float.Ieee.Scale.{finite}
use Rattle.std.specs.List.{list_all, range_with_len}
use Rattle.buffers.specs.Rows.{all}
use Rattle.buffers.proofs.Lists.{all-add, all-ext}

all-from : (f : ℕ → Bool) (a n : ℕ) → list_all f (range_with_len a n) ≡ all n (λ i. f (a + i))
unfolding all
all-from f a zero = refl
all-from f a (suc n) =
    let first : a ≡ a + 0 = omega arith in
    let more : 1 + n ≡ suc n = omega arith in
    ap (λ (b : Bool). f a && b) (all-from f (a + 1) n ∙ all-ext n (λ i. f (a + 1 + i)) (λ i. f (a + (1 + i))) (λ i _. ap f (let e : a + 1 + i ≡ a + (1 + i) = omega arith in e)))
    ∙ ap (λ (k : ℕ). f k && all n (λ i. f (a + (1 + i)))) first
    ∙ sym (all-add 1 n (λ i. f (a + i)))
    ∙ ap (λ (k : ℕ). all k (λ i. f (a + i))) more

-- that of the numbers of 0..n
pub all-below : (f : ℕ → Bool) (n : ℕ) → list_all f (range_with_len 0 (n - 0)) ≡ all n f
all-below f n =
    let same : n - 0 ≡ n = omega arith in
    ap (λ (m : ℕ). list_all f (range_with_len 0 m)) same ∙ all-from f 0 n ∙ all-ext n (λ i. f (0 + i)) f (λ i _. ap f (let e : 0 + i ≡ i = omega arith in e))

-- `x.is_finite()` says whether x is finite
pub finite-is : (x : Float) → float_is_finite x ≡ finite x
unfolding float_is_finite
finite-is nan = refl
finite-is (inf s) = refl
finite-is (fin s m e) = refl
