-- What the two calls of a record answer and leave. Assumes nothing.
use Rattle.std.specs.Prelude.{Result, ℕ, ◌%◌, List, [], ◌∷◌, ◌++◌, length, get_or, take, drop, Float}
use Rattle.std.specs.Float.{binary32}
use Rattle.std.specs.Float.Ieee.{of_bits}
use Rattle.picture_limits.specs.declared.PictureSettings.{PictureSettings}
use Rattle.picture_limits.specs.declared.Refusal.{Refusal}
use Rattle.picture.specs.declared.Patches.{Patches}
use Rattle.picture_restore.specs.declared.Picture.{Picture}
use Rattle.picture.specs.Preprocess as Pre
use Rattle.picture.specs.Preprocess.{preprocessed, patches_of, patches_left}
use Rattle.picture_restore.specs.Restore as Res
use Rattle.picture_restore.specs.Restore.{restored, bytes_of, bytes_left}
use Rattle.picture_replay.specs.declared.run.Made.{Made}
use Rattle.picture_replay.specs.declared.run.Back.{Back}
use Rattle.replay.specs.Hash.{byte_hash, float_hash}
use Rattle.replay.specs.Marks.{seeded, marks, bytes}
use Rattle.replay.specs.Damage.{damaged}

-- ---- one call

abbrev pub made_from : Result Patches Refusal → ℕ → Made
made_from a h = record { number = Pre.number a; grid_h = Pre.grid_h a; grid_w = Pre.grid_w a; floats = Pre.floats a; hash = h }

abbrev pub back_from : Result Picture Refusal → ℕ → Back
back_from a h = record { number = Res.number a; height = Res.height a; width = Res.width a; hash = h }

-- preprocess's answer to a picture and an output, and the output afterwards
abbrev pub made : PictureSettings → List ℕ → ℕ → ℕ → List Float → Result Patches Refusal
made s rgb h w out = preprocessed s (length rgb) h w (length out)

unfoldable pub left : PictureSettings → List ℕ → ℕ → ℕ → List Float → List Float
left s rgb h w out = patches_left (made s rgb h w out) (patches_of s rgb h w) out

unfoldable pub made_of : PictureSettings → List ℕ → ℕ → ℕ → List Float → Made
made_of s rgb h w out = made_from (made s rgb h w out) (float_hash (left s rgb h w out))

abbrev pub brought : PictureSettings → List Float → ℕ → ℕ → List ℕ → Result Picture Refusal
brought s l gh gw out = restored s l gh gw (length out)

unfoldable pub back_of : PictureSettings → List Float → ℕ → ℕ → List ℕ → Back
back_of s l gh gw out = back_from (brought s l gh gw out) (byte_hash (bytes_left (brought s l gh gw out) (bytes_of s l gh gw) out))

-- ---- a record of 30 numbers

-- the cells of a buffer: 64 × 64 pixels of three samples, and 64 more
abbrev pub room : ℕ
room = 12352

abbrev pub at : List ℕ → ℕ → ℕ
at v k = get_or v k 0

-- the float of a pattern
abbrev pub float_of : ℕ → Float
float_of x = of_bits binary32 (x % 4294967296)

abbrev pub settings_of : List ℕ → PictureSettings
settings_of v =
    record {
      patch_size = at v 0;
      spatial_merge_size = at v 1;
      image_size = at v 2;
      resize_rule = at v 23;
      mean = float_of (at v 24) ∷ float_of (at v 25) ∷ float_of (at v 26) ∷ [];
      deviation = float_of (at v 27) ∷ float_of (at v 28) ∷ float_of (at v 29) ∷ [];
    }

abbrev pub rgb_of : List ℕ → List ℕ
rgb_of v = bytes (seeded (at v 7)) (at v 5)

-- preprocess into the front of the cells
unfoldable pub first_of : List ℕ → List Float → Made
first_of v cells = made_of (settings_of v) (rgb_of v) (at v 3) (at v 4) (take (at v 6) cells)

unfoldable pub cells_left : List ℕ → List Float → List Float
cells_left v cells = left (settings_of v) (rgb_of v) (at v 3) (at v 4) (take (at v 6) cells) ++ drop (at v 6) cells

-- restore of the front of the cells, once damaged, into marked bytes
unfoldable pub second_of : List ℕ → List Float → Back
second_of v cells = back_of (settings_of v) (take (at v 15) (damaged cells (at v 17) (at v 18))) (at v 13) (at v 14) (bytes marks (at v 16))
