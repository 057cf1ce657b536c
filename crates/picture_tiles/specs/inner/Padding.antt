-- What the loops over a tile's padding find. Assumes nothing.
use Rattle.std.specs.Prelude.{Bool, ◌||◌, cond, List, ℕ, ◌+◌, ◌*◌, eqb, ltb, get_or, Float}
use Rattle.std.specs.Float.{nan, binary32}
use Rattle.std.specs.Float.Ieee.{to_bits}
use Rattle.buffers.specs.Rows.{all}
use Rattle.picture_limits.specs.declared.View.{View}
use Rattle.picture_limits.specs.View.{has}
use Rattle.picture_tiles.specs.Tile.{found}

-- by a table k: the three samples of a pixel, which lie n apart, have the patterns of byte 0
abbrev pub zero_pixel : (ℕ → ℕ → ℕ) → ℕ → List Float → ℕ → Bool
zero_pixel k n l from = all 3 (λ c. eqb (to_bits binary32 (get_or l (from + c * n) nan)) (k c 0))

-- how many columns of row y are the view's
unfoldable pub own_columns : View → ℕ → ℕ
own_columns v y = cond (ltb y v.height) v.width 0

-- each pixel of row y that is not the view's has byte 0's
abbrev pub zero_row : (ℕ → ℕ → ℕ) → ℕ → ℕ → List Float → View → ℕ → Bool
zero_row k p gw l v y = all (gw * p) (λ x. has v y x || all 3 (λ c. eqb (found k p gw l y x c) 0))

-- of each row
unfoldable pub zero_rows : (ℕ → ℕ → ℕ) → ℕ → ℕ → ℕ → List Float → View → Bool
zero_rows k p gh gw l v = all (gh * p) (λ y. zero_row k p gw l v y)
