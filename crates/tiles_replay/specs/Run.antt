-- What the two calls of a record answer and leave. Assumes nothing.
use Rattle.std.specs.Prelude.{Result, Ok, Err, ℕ, ◌%◌, List, [], ◌∷◌, ◌++◌, length, get_or, take, drop, Float}
use Rattle.std.specs.Float.{binary32}
use Rattle.std.specs.Float.Ieee.{of_bits}
use Rattle.picture_limits.specs.declared.PictureSettings.{PictureSettings}
use Rattle.picture_limits.specs.declared.Refusal.{Refusal}
use Rattle.picture_limits.specs.Refusal as R
use Rattle.picture_tiles.specs.declared.Tile.{Tile}
use Rattle.picture_tiles.specs.Answer.{tiled, patches_out, untiled, bytes_out}
use Rattle.tiles_replay.specs.declared.run.Told.{Told}
use Rattle.replay.specs.Hash.{byte_hash, float_hash}
use Rattle.replay.specs.Marks.{seeded, marks, bytes}
use Rattle.replay.specs.Damage.{damaged}

-- ---- one call

-- the paper's number and sizes of an answer, 0 for every size of a refusal, and a hash
abbrev pub told_of : Result Tile Refusal → ℕ → Told
told_of (Ok a) k = record { number = 0; grid_h = a.grid_h; grid_w = a.grid_w; floats = a.floats; top = a.top; left = a.left; height = a.height; width = a.width; hash = k }
told_of (Err r) k = record { number = R.number r; grid_h = 0; grid_w = 0; floats = 0; top = 0; left = 0; height = 0; width = 0; hash = k }

-- the output after a tile's preprocess; its answer and the hash of that output
unfoldable pub made_left : PictureSettings → List ℕ → ℕ → ℕ → ℕ → List Float → List Float
made_left s rgb h w i out = patches_out s rgb h w i out

unfoldable pub made_of : PictureSettings → List ℕ → ℕ → ℕ → ℕ → List Float → Told
made_of s rgb h w i out = told_of (tiled s (length rgb) h w i (length out)) (float_hash (made_left s rgb h w i out))

-- the same of restore
unfoldable pub back_of : PictureSettings → List Float → ℕ → ℕ → ℕ → List ℕ → Told
back_of s l h w i out = told_of (untiled s l h w i (length out)) (byte_hash (bytes_out s l h w i out))

-- ---- a record of 39 numbers

-- the cells of a buffer: 64 × 64 pixels of three samples, and 64 more
abbrev pub room : ℕ
room = 12352

abbrev pub at : List ℕ → ℕ → ℕ
at v k = get_or v k 0

-- the float of a pattern
abbrev pub float_of : ℕ → Float
float_of x = of_bits binary32 (x % 4294967296)

abbrev pub settings_of : List ℕ → PictureSettings
settings_of v =
    record {
      patch_size = at v 0;
      spatial_merge_size = at v 1;
      image_size = at v 2;
      resize_rule = at v 32;
      mean = float_of (at v 33) ∷ float_of (at v 34) ∷ float_of (at v 35) ∷ [];
      deviation = float_of (at v 36) ∷ float_of (at v 37) ∷ float_of (at v 38) ∷ [];
    }

abbrev pub rgb_of : List ℕ → List ℕ
rgb_of v = bytes (seeded (at v 8)) (at v 6)

-- preprocess into the front of the cells
unfoldable pub first_of : List ℕ → List Float → Told
first_of v cells = made_of (settings_of v) (rgb_of v) (at v 3) (at v 4) (at v 5) (take (at v 7) cells)

unfoldable pub cells_left : List ℕ → List Float → List Float
cells_left v cells = made_left (settings_of v) (rgb_of v) (at v 3) (at v 4) (at v 5) (take (at v 7) cells) ++ drop (at v 7) cells

-- restore of the front of the cells, once damaged, into marked bytes
unfoldable pub second_of : List ℕ → List Float → Told
second_of v cells = back_of (settings_of v) (take (at v 19) (damaged cells (at v 21) (at v 22))) (at v 3) (at v 4) (at v 18) (bytes marks (at v 20))
