-- Joining tiles: what each writes over a sweep's bytes. Assumes nothing.
use Rattle.std.specs.Prelude.{List, [], ◌∷◌, ℕ, ◌+◌, ◌*◌}
use Rattle.buffers.specs.Region.{region, put_rows}
use Rattle.picture_limits.specs.declared.PictureSettings.{PictureSettings}
use Rattle.picture_tiles.specs.Cut.{top, left, own_height, own_width, tile_width}

-- where row y of tile i lies in the sweep's bytes
abbrev pub row_place : PictureSettings → ℕ → ℕ → ℕ → ℕ
row_place s w i y = ((top s w i + y) * w + left s w i) * 3

-- row y of the tile's own bytes, of the bytes b of the padded tile
abbrev pub own_row : PictureSettings → ℕ → ℕ → List ℕ → ℕ → List ℕ
own_row s w i b y = region b (y * (tile_width s w i * 3)) (own_width s w i * 3)

-- old with the own rows of tile i, whose bytes are b, written at their places
abbrev pub put_tile : PictureSettings → ℕ → ℕ → ℕ → List ℕ → List ℕ → List ℕ
put_tile s h w i b old = put_rows old (own_height s h w i) (row_place s w i) (own_row s w i b)

-- the tiles of the list, one after another; b i are the bytes of tile i
unfoldable pub put_tiles : PictureSettings → ℕ → ℕ → (ℕ → List ℕ) → List ℕ → List ℕ → List ℕ
put_tiles s h w b [] old = old
put_tiles s h w b (i ∷ is) old = put_tiles s h w b is (put_tile s h w i (b i) old)

-- i stands in the list
pub data Has (i : ℕ) : List ℕ → Type 0 where
  here : (is : List ℕ) → Has i (i ∷ is)
  there : (j : ℕ) (is : List ℕ) → Has i is → Has i (j ∷ is)
