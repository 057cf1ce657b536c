-- Lists made one piece after another, and tests over a range. Assumes nothing.
use Rattle.std.specs.Prelude.{Bool, true, ◌&&◌, cond, List, [], ◌∷◌, ◌++◌, ℕ, zero, suc, ◌+◌}

module _ {A : Type 0} where
  -- f 0, .., f (n - 1)
  unfoldable pub tab : ℕ → (ℕ → A) → List A
  tab zero f = []
  tab (suc n) f = tab n f ++ (f n ∷ [])

  -- the pieces f 0, .., f (n - 1), joined
  unfoldable pub rows : ℕ → (ℕ → List A) → List A
  rows zero f = []
  rows (suc n) f = rows n f ++ f n

  -- row after row: f 0 0, .., f 0 (m - 1), f 1 0, .., f (r - 1) (m - 1)
  abbrev pub grid : ℕ → ℕ → (ℕ → ℕ → A) → List A
  grid r m f = rows r (λ i. tab m (f i))

-- the test passes at 0, .., n - 1
unfoldable pub all : ℕ → (ℕ → Bool) → Bool
all zero f = true
all (suc n) f = all n f && f n

-- at how many of 0, .., n - 1 the test passes
unfoldable pub count : ℕ → (ℕ → Bool) → ℕ
count zero f = zero
count (suc n) f = count n f + cond (f n) 1 0

-- the first k below n at which the test passes, and n where there is none
unfoldable pub first : ℕ → (ℕ → Bool) → ℕ
first zero f = zero
first (suc n) f = cond (f zero) zero (suc (first n (λ k. f (suc k))))
