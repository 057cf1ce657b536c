-- Any two results that satisfy the contract of a public function are equal. Assumes nothing.
use mathlib.Core.Path.{◌≡◌, ap}
use mathlib.Core.List.{List}
use Prim.Native.Nat.{ℕ}
use lib.ListN.{length}
use lib.Ieee.{Float}
use Rattle.number_floats.proofs.Unique.{one}
use Rattle.pool_books.specs.declared.Pool.{Pool}
use Rattle.pool.specs.Pool.{Outcome, Pooled, pooled}
use Rattle.std.specs.Prelude.{Result}
use Rattle.picture_limits.specs.declared.Refusal as F
use Rattle.pool_books.specs.declared.Place.{Place}
use Rattle.pool.specs.Pool.{new_pool, add_answer, add_slice, find_answer, drop_answer}

pub new-unique : (n : ℕ) (a b : Pool) → a ≡ new_pool n → b ≡ new_pool n → a ≡ b
new-unique n a b = one _

-- the answer, with the pool after the call, and the slice
abbrev pub Added : Pool → List Float → ℕ → List Float → Pooled → List Float → Type 0
Added p s k vs r t = (r ≡ add_answer p s k vs) × (t ≡ add_slice p s k vs)

pub add-unique : (p : Pool) (s : List Float) (k : ℕ) (vs : List Float) (r r' : Pooled) (t t' : List Float) → Added p s k vs r t → Added p s k vs r' t' → (r ≡ r') × (t ≡ t')
add-unique p s k vs r r' t t' x y = (one _ x.0 y.0, one _ x.1 y.1)

-- so are the outcome that it returns, the pool that it leaves and the slice
pub add-result-unique : (p : Pool) (s : List Float) (k : ℕ) (vs : List Float) (o o' : Outcome) (q q' : Pool) (t t' : List Float) → Added p s k vs (pooled o q) t → Added p s k vs (pooled o' q') t' → (o ≡ o') × (q ≡ q') × (t ≡ t')
add-result-unique p s k vs o o' q q' t t' x y =
    let e = add-unique p s k vs (pooled o q) (pooled o' q') t t' x y in
    (ap (λ (r : Pooled). r.outcome) e.0, ap (λ (r : Pooled). r.pool) e.0, e.1)

pub find-unique : (p : Pool) (s : List Float) (k : ℕ) (a b : Result Place F.Refusal) → a ≡ find_answer p (length s) k → b ≡ find_answer p (length s) k → a ≡ b
find-unique p s k a b = one _

pub drop-unique : (p : Pool) (s : List Float) (k : ℕ) (a b : Pooled) → a ≡ drop_answer p (length s) k → b ≡ drop_answer p (length s) k → a ≡ b
drop-unique p s k a b = one _

-- so are the outcome that it returns and the pool that it leaves
pub drop-result-unique : (p : Pool) (s : List Float) (k : ℕ) (o o' : Outcome) (q q' : Pool) → pooled o q ≡ drop_answer p (length s) k → pooled o' q' ≡ drop_answer p (length s) k → (o ≡ o') × (q ≡ q')
drop-result-unique p s k o o' q q' x y =
    let e = drop-unique p s k (pooled o q) (pooled o' q') x y in
    (ap (λ (r : Pooled). r.outcome) e, ap (λ (r : Pooled). r.pool) e)
