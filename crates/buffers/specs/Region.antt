-- What stands at a place of a buffer, and what is written over it. Assumes nothing.
use Rattle.std.specs.Prelude.{cond, List, [], ◌∷◌, ◌++◌, ℕ, zero, suc, leb, length, take, drop, set, Float}
use Rattle.number_floats.specs.Constants.{zero32}
use Rattle.buffers.specs.Rows.{tab}

module _ {A : Type 0} where
  -- the n elements from index at
  abbrev pub region : List A → ℕ → ℕ → List A
  region s at n = take n (drop at s)

  -- s with ys written over it from index at
  unfoldable pub put : List A → ℕ → List A → List A
  put s at [] = s
  put s at (y ∷ ys) = put (set s at y) (suc at) ys

  -- s with the pieces f 0, .., f (n - 1) written over it, f y from index at y
  unfoldable pub put_rows : List A → ℕ → (ℕ → ℕ) → (ℕ → List A) → List A
  put_rows s zero at f = s
  put_rows s (suc n) at f = put (put_rows s n at f) (at n) (f n)

  -- ys, and what the longer old list has behind them
  abbrev pub over : List A → List A → List A
  over ys old = ys ++ drop (length ys) old

  -- ys over the front of old, where they fit
  unfoldable pub copied : List A → List A → List A
  copied ys old = cond (leb (length ys) (length old)) (over ys old) old

-- as many +0 as s has elements
abbrev pub cleared : List Float → List Float
cleared s = tab (length s) (λ _. zero32)
