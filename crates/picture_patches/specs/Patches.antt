-- The order of patches and of their samples. v is the value at a row, a column and a channel. Assumes nothing.
use Rattle.std.specs.Prelude.{List, ℕ, ◌+◌, ◌*◌}
use Rattle.buffers.specs.Rows.{tab, rows}

module _ {A : Type 0} where
  -- a row, a channel, the three channels of the patch whose first row and column are r and x
  abbrev pub patch_row : ℕ → (ℕ → ℕ → ℕ → A) → ℕ → ℕ → ℕ → List A
  patch_row p v r x c = tab p (λ j. v r (x + j) c)

  abbrev pub patch_channel : ℕ → (ℕ → ℕ → ℕ → A) → ℕ → ℕ → ℕ → List A
  patch_channel p v r x c = rows p (λ i. patch_row p v (r + i) x c)

  abbrev pub patch_at : ℕ → (ℕ → ℕ → ℕ → A) → ℕ → ℕ → List A
  patch_at p v r x = rows 3 (λ c. patch_channel p v r x c)

  -- the patches side by side, and row below row
  abbrev pub patch_line : ℕ → ℕ → (ℕ → ℕ → ℕ → A) → ℕ → List A
  patch_line p gw v r = rows gw (λ b. patch_at p v r (b * p))

  abbrev pub patches : ℕ → ℕ → ℕ → (ℕ → ℕ → ℕ → A) → List A
  patches p gh gw v = rows gh (λ a. patch_line p gw v (a * p))
