-- Smaller rotary tables (2026-06): a table of rows and a table of columns, which together stand for a full one. The row of position
-- (h, w) has four quarters of q values: those of h in the table of rows, those of w in the table of columns, and both again.
-- Assumes nothing.
use Rattle.std.specs.Prelude.{Bool, true, false, List, ◌++◌, ℕ, ◌*◌, Float}
use Rattle.buffers.specs.Rows.{tab, rows}
use Rattle.buffers.specs.Region.{region}

-- two halves alike, each of two quarters
abbrev pub twice : List Float → List Float → List Float
twice r c = (r ++ c) ++ (r ++ c)

-- the row of position (h, w)
abbrev pub axis_row : ℕ → List Float → List Float → ℕ → ℕ → List Float
axis_row q r c h w = twice (region r (h * q) q) (region c (w * q) q)

-- the full table of side * side positions
unfoldable pub expand : ℕ → ℕ → List Float → List Float → List Float
expand side q r c = rows side (λ h. rows side (λ w. axis_row q r c h w))

-- the full table that a call goes by: with axes a is a table of rows and b one of columns, else a is the full table
abbrev pub table_of : Bool → ℕ → ℕ → List Float → List Float → List Float
table_of true side q a b = expand side q a b
table_of false side q a b = a

-- ---- tables of the form that `precompute_2d_rope` makes, over any values: f of a row and a place, g of a column and a place

abbrev pub axis : ℕ → ℕ → (ℕ → ℕ → Float) → List Float
axis side q f = rows side (λ h. tab q (f h))

unfoldable pub precomputed : ℕ → ℕ → (ℕ → ℕ → Float) → (ℕ → ℕ → Float) → List Float
precomputed side q f g = rows side (λ h. rows side (λ w. twice (tab q (f h)) (tab q (g w))))
