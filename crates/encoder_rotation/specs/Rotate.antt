-- A head vector rotated by its position's cosines and sines: its halves x1, x2 give x1 cos + (-x2) sin and
-- x2 cos + x1 sin. The position of token (h, w) in the tables is h * P + w. Assumes nothing.
use Rattle.std.specs.Prelude.{List, ◌++◌, ℕ, ◌+◌, ◌*◌, ◌/◌, ◌%◌, get_or, Float}
use Rattle.std.specs.Float.{nan, binary32}
use Rattle.std.specs.Float.Ieee.{add, mul, neg}
use Rattle.buffers.specs.Rows.{tab}
use Rattle.buffers.specs.Region.{region}
use Rattle.buffers.specs.Each.{each_row}

abbrev pub low_of : ℕ → List Float → List Float → List Float → ℕ → Float
low_of half x cos sin j = add binary32 (mul binary32 (get_or x j nan) (get_or cos j nan)) (mul binary32 (neg (get_or x (j + half) nan)) (get_or sin j nan))

abbrev pub high_of : ℕ → List Float → List Float → List Float → ℕ → Float
high_of half x cos sin j = add binary32 (mul binary32 (get_or x (j + half) nan) (get_or cos (j + half) nan)) (mul binary32 (get_or x j nan) (get_or sin (j + half) nan))

-- one head
unfoldable pub rotated_head : ℕ → List Float → List Float → List Float → List Float
rotated_head half cos sin x = tab half (low_of half x cos sin) ++ tab half (high_of half x cos sin)

-- the heads of one token
unfoldable pub rotated_token : ℕ → ℕ → List Float → List Float → List Float → List Float
rotated_token heads half cos sin x = each_row heads (half + half) (λ _. rotated_head half cos sin) x

-- token i of a grid gw wide has row i / gw and column i % gw
abbrev pub position : ℕ → ℕ → ℕ → ℕ
position gw side i = i / gw * side + i % gw

-- token i, by the row of each table at its position
abbrev pub rotated_at : ℕ → ℕ → ℕ → ℕ → List Float → List Float → ℕ → List Float → List Float
rotated_at heads half gw side cos sin i = rotated_token heads half (region cos (position gw side i * (half + half)) (half + half)) (region sin (position gw side i * (half + half)) (half + half))

-- every token
unfoldable pub rotate_of : ℕ → ℕ → ℕ → ℕ → ℕ → List Float → List Float → List Float → List Float
rotate_of tokens heads half gw side cos sin x = each_row tokens (heads * (half + half)) (rotated_at heads half gw side cos sin) x
