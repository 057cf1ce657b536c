-- Rows of a matrix that lies row after row in a list, and what is done to each. Assumes nothing.
use Rattle.std.specs.Prelude.{List, ℕ, ◌*◌, get_or}
use Rattle.buffers.specs.Rows.{tab, rows}
use Rattle.buffers.specs.Region.{region, put}

module _ {A : Type 0} where
  -- row i of the result is F i of row i of the n rows of m in l
  abbrev pub each_row : ℕ → ℕ → (ℕ → List A → List A) → List A → List A
  each_row n m F l = rows n (λ i. F i (region l (i * m) m))

  -- F of each of the first n elements of a; d where there is none
  abbrev pub each : A → ℕ → (A → A) → List A → List A
  each d n F a = tab n (λ i. F (get_or a i d))

  -- F of the first n elements of a and of b, one by one
  abbrev pub both : A → ℕ → (A → A → A) → List A → List A → List A
  both d n F a b = tab n (λ i. F (get_or a i d) (get_or b i d))

  -- l with the n elements from at blanked out: what is said of it says nothing of those
  abbrev pub blank : A → ℕ → ℕ → List A → List A
  blank d at n l = put l at (tab n (λ _. d))
