-- What the calls on tiles answer and write, for every input: `cut` (1, 19, 2, 4), a tile to patches (1, 19, 2, 3, 4, 20, 5)
-- and back (1, 19, 2, 4, 20, 7, 5, 8). Assumes nothing.
use Rattle.std.specs.Prelude.{Result, Ok, Err, List, ℕ, ◌*◌, eqb, leb, length, Float}
use Rattle.buffers.specs.Region.{over}
use Rattle.picture_limits.specs.declared.PictureSettings.{PictureSettings}
use Rattle.picture_limits.specs.declared.Refusal.{Refusal}
use Rattle.picture_limits.specs.declared.Refusal.TheVariants.{Setting, Side, RgbLength, ImageSize, Output, PatchesLength, Sample, Channel, Tile}
use Rattle.picture_limits.specs.Refusal.{unless}
use Rattle.picture_limits.specs.Settings.{allowed, sided, align}
use Rattle.picture_limits.specs.Places.{patch_floats}
use Rattle.picture_restore.specs.Restore.{bytes_of}
use Rattle.picture_samples.specs.Samples.{channels_allowed, value_of, pattern_of}
use Rattle.picture_tiles.specs.declared.Tiles.{Tiles}
use Rattle.picture_tiles.specs.declared.Tile as D
use Rattle.picture_tiles.specs.Cut.{tile_side, down, across, in_cut, top, left, own_height, own_width, grid_h, grid_w}
use Rattle.picture_tiles.specs.Tile.{tile_patches, tile_known}
use Rattle.picture_tiles.specs.Join.{put_tile}

-- s, and how many tiles stand below each other and side by side
unfoldable pub cut_of : PictureSettings → ℕ → ℕ → Result Tiles Refusal
cut_of s h w =
    unless (allowed s) (Err Setting)
    (unless (channels_allowed (value_of s)) (Err Channel)
    (unless (sided h w) (Err Side)
    (unless (leb (align s) s.image_size) (Err ImageSize)
    (Ok (record { side = tile_side s; rows = down s h; columns = across s w })))))

-- ---- a tile to patches, and back

abbrev pub tile_floats : PictureSettings → ℕ → ℕ → ℕ → ℕ
tile_floats s h w i = grid_h s h w i * grid_w s w i * patch_floats s.patch_size

-- what both calls report of tile i
abbrev pub tile_of : PictureSettings → ℕ → ℕ → ℕ → Result D.Tile Refusal
tile_of s h w i =
    Ok (record { grid_h = grid_h s h w i; grid_w = grid_w s w i; floats = tile_floats s h w i; top = top s w i; left = left s w i; height = own_height s h w i; width = own_width s w i })

-- the answer of a tile's preprocess: `len` is the length of the RGB bytes and `room` that of the output
unfoldable pub tiled : PictureSettings → ℕ → ℕ → ℕ → ℕ → ℕ → Result D.Tile Refusal
tiled s len h w i room =
    unless (allowed s) (Err Setting)
    (unless (channels_allowed (value_of s)) (Err Channel)
    (unless (sided h w) (Err Side)
    (unless (eqb len (h * w * 3)) (Err RgbLength)
    (unless (leb (align s) s.image_size) (Err ImageSize)
    (unless (in_cut s h w i) (Err Tile)
    (unless (leb (tile_floats s h w i) room) (Err Output)
    (tile_of s h w i)))))))

abbrev pub patches_left : Result D.Tile Refusal → List Float → List Float → List Float
patches_left (Ok a) ys old = over ys old
patches_left (Err r) ys old = old

abbrev pub patches_out : PictureSettings → List ℕ → ℕ → ℕ → ℕ → List Float → List Float
patches_out s rgb h w i old = patches_left (tiled s (length rgb) h w i (length old)) (tile_patches (pattern_of s) s rgb h w i) old

-- the answer of a tile's restore into the RGB bytes of the sweep, of length `room`
unfoldable pub untiled : PictureSettings → List Float → ℕ → ℕ → ℕ → ℕ → Result D.Tile Refusal
untiled s l h w i room =
    unless (allowed s) (Err Setting)
    (unless (channels_allowed (value_of s)) (Err Channel)
    (unless (sided h w) (Err Side)
    (unless (leb (align s) s.image_size) (Err ImageSize)
    (unless (in_cut s h w i) (Err Tile)
    (unless (eqb (length l) (tile_floats s h w i)) (Err PatchesLength)
    (unless (leb (h * w * 3) room) (Err Output)
    (unless (tile_known (pattern_of s) s l h w i) (Err Sample)
    (tile_of s h w i))))))))

-- the sweep's bytes with the tile's own written at their places
abbrev pub bytes_left : Result D.Tile Refusal → PictureSettings → ℕ → ℕ → ℕ → List ℕ → List ℕ → List ℕ
bytes_left (Ok a) s h w i ys old = put_tile s h w i ys old
bytes_left (Err r) s h w i ys old = old

abbrev pub bytes_out : PictureSettings → List Float → ℕ → ℕ → ℕ → List ℕ → List ℕ
bytes_out s l h w i old = bytes_left (untiled s l h w i (length old)) s h w i (bytes_of s l (grid_h s h w i) (grid_w s w i)) old
