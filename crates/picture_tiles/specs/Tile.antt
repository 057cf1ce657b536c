-- A tile of a sweep, padded right and below with zero bytes, and its patches. Assumes nothing.
use Rattle.std.specs.Prelude.{Bool, ◌&&◌, ◌||◌, List, ℕ, eqb, get_or, Float}
use Rattle.std.specs.Float.{nan, binary32}
use Rattle.std.specs.Float.Ieee.{to_bits}
use Rattle.buffers.specs.Rows.{all}
use Rattle.picture_limits.specs.declared.PictureSettings.{PictureSettings}
use Rattle.picture_limits.specs.declared.View.{View}
use Rattle.picture_limits.specs.View.{has}
use Rattle.picture_limits.specs.Places.{picture, sample_place}
use Rattle.picture_samples.specs.Samples.{value, byte_of}
use Rattle.picture_patches.specs.Patches.{patches}
use Rattle.picture_patches.specs.Viewed.{view_at}
use Rattle.picture_view.specs.Known.{known}
use Rattle.picture_tiles.specs.Cut.{top, left, own_height, own_width, tile_height, tile_width, grid_h, grid_w}

-- what tile i has of the sweep
abbrev pub tile_view : PictureSettings → ℕ → ℕ → ℕ → View
tile_view s h w i = record { top = top s w i; left = left s w i; height = own_height s h w i; width = own_width s w i }

-- its row y and column x are the sweep's
abbrev pub owns : PictureSettings → ℕ → ℕ → ℕ → ℕ → ℕ → Bool
owns s h w i y x = has (tile_view s h w i) y x

-- its byte at a row, a column and a channel: the sweep's, or 0
abbrev pub tile_at : PictureSettings → List ℕ → ℕ → ℕ → ℕ → ℕ → ℕ → ℕ → ℕ
tile_at s rgb h w i y x c = view_at rgb w (tile_view s h w i) y x c

-- the padded tile
abbrev pub tile_bytes : PictureSettings → List ℕ → ℕ → ℕ → ℕ → List ℕ
tile_bytes s rgb h w i = picture (tile_height s h w i) (tile_width s w i) (tile_at s rgb h w i)

-- its patches, by a table k of patterns
abbrev pub tile_patches : (ℕ → ℕ → ℕ) → PictureSettings → List ℕ → ℕ → ℕ → ℕ → List Float
tile_patches k s rgb h w i = patches s.patch_size (grid_h s h w i) (grid_w s w i) (λ y x c. value k c (tile_at s rgb h w i y x c))

-- ---- which patches a tile gives

-- the byte found from the sample at a row, a column and a channel of patches of side p, gw of them side by side; 256 where
-- there is none
abbrev pub found : (ℕ → ℕ → ℕ) → ℕ → ℕ → List Float → ℕ → ℕ → ℕ → ℕ
found k p gw l y x c = byte_of k c (to_bits binary32 (get_or l (sample_place p gw y x c) nan))

-- of tile i
abbrev pub found_at : (ℕ → ℕ → ℕ) → PictureSettings → List Float → ℕ → ℕ → ℕ → ℕ → ℕ → ℕ
found_at k s l w i y x c = found k s.patch_size (grid_w s w i) l y x c

-- each padding sample is byte 0's
unfoldable pub padded : (ℕ → ℕ → ℕ) → PictureSettings → List Float → ℕ → ℕ → ℕ → Bool
padded k s l h w i = all (tile_height s h w i) (λ y. all (tile_width s w i) (λ x. owns s h w i y x || all 3 (λ c. eqb (found_at k s l w i y x c) 0)))

-- each sample is a byte's, and each padding sample byte 0's
abbrev pub tile_known : (ℕ → ℕ → ℕ) → PictureSettings → List Float → ℕ → ℕ → ℕ → Bool
tile_known k s l h w i = known k s.patch_size l && padded k s l h w i
