-- How many floats a patch has, where a sample lies, and a picture's order. Assumes nothing.
use Rattle.std.specs.Prelude.{List, ℕ, ◌+◌, ◌*◌, ◌/◌, ◌%◌}
use Rattle.buffers.specs.Rows.{tab, rows}

-- how many floats a patch has
abbrev pub patch_floats : ℕ → ℕ
patch_floats p = 3 * (p * p)

-- where the sample at row r, column x, channel c lies
abbrev pub sample_place : ℕ → ℕ → ℕ → ℕ → ℕ → ℕ
sample_place p gw r x c = (r / p * gw + x / p) * patch_floats p + c * (p * p) + (r % p * p + x % p)

-- h rows of w columns of three channels, v the value at a row, a column and a channel
abbrev pub picture : {A : Type 0} → ℕ → ℕ → (ℕ → ℕ → ℕ → A) → List A
picture h w v = rows h (λ y. rows w (λ x. tab 3 (λ c. v y x c)))
