-- Nothing of a sweep is lost in its tiles: every sample lies in one of them, and the tiles give the sweep back. Five statements;
-- proofs/Undo.antt proves them. Assumes nothing.
use Rattle.std.specs.Prelude.{◌≡◌, Ok, Err, true, List, [], ◌∷◌, ℕ, ◌+◌, ◌*◌, ◌≤◌, ◌<◌, length, get_or, take, Float}
use Rattle.std.specs.Float.{nan}
use Rattle.buffers.specs.Lent.{Bytes, Floats}
use Rattle.picture_limits.specs.declared.PictureSettings.{PictureSettings}
use Rattle.picture_limits.specs.declared.Refusal.TheVariants.{Sample}
use Rattle.picture_limits.specs.Settings.{sided}
use Rattle.picture_limits.specs.Shape.{shaped}
use Rattle.picture_limits.specs.Places.{sample_place}
use Rattle.picture_samples.specs.Samples.{channels_allowed, value_of, pattern_of}
use Rattle.picture_resize.specs.Resize.{pixel}
use Rattle.picture.specs.Undo.{pictured}
use Rattle.picture_restore.specs.Restore.{restored, bytes_of}
use Rattle.picture_tiles.specs.Cut.{Ready, tiles, top, left, own_height, own_width, tile_height, tile_width, grid_h, grid_w}
use Rattle.picture_tiles.specs.Tile.{tile_bytes, tile_patches}
use Rattle.picture_tiles.specs.Join.{put_tile, Has}
use Rattle.picture_tiles.specs.Answer.{tile_floats, tile_of, tiled, patches_out, untiled, bytes_out}

-- ---- 1. Every sample of the sweep lies in exactly one tile, at exactly one place of its patches

-- row y and column x of tile i are row r and column z of the sweep
pub record Lies (s : PictureSettings) (h w i y x r z : ℕ) : Type 0 where
  pub cut : i < tiles s h w
  pub tall : y < own_height s h w i
  pub wide : x < own_width s w i
  pub row : top s w i + y ≡ r
  pub column : left s w i + x ≡ z

-- the sample at row r, column z and channel c: its tile, its row and column there, and that the tile's patches have it
pub record Held (s : PictureSettings) (rgb : List ℕ) (h w r z c : ℕ) : Type 0 where
  pub tile : ℕ
  pub row : ℕ
  pub column : ℕ
  pub lies : Lies s h w tile row column r z
  pub sample : get_or (tile_patches (pattern_of s) s rgb h w tile) (sample_place s.patch_size (grid_w s w tile) row column c) nan ≡ value_of s c (pixel rgb w r z c)
  pub only : (i y x : ℕ) → Lies s h w i y x r z → (i ≡ tile) × (y ≡ row) × (x ≡ column)

abbrev pub Once : Type 0
Once = (s : PictureSettings) (rgb : List ℕ) (h w : ℕ) → Ready s → (r z c : ℕ) → r < h → z < w → c < 3 → Held s rgb h w r z c

-- ---- 2. A tile's patches give the padded tile by restore, and its own bytes, at their places, by the tile's restore

-- what the call leaves at the front of its output
abbrev pub patches_at : PictureSettings → List ℕ → ℕ → ℕ → ℕ → List Float → List Float
patches_at s rgb h w i out = take (tile_floats s h w i) (patches_out s rgb h w i out)

pub record Back (s : PictureSettings) (rgb : List ℕ) (h w i : ℕ) (out : List Float) (room : ℕ) (old : List ℕ) : Type 0 where
  pub patches : patches_at s rgb h w i out ≡ tile_patches (pattern_of s) s rgb h w i
  pub padded : tile_height s h w i * tile_width s w i * 3 ≤ room → restored s (patches_at s rgb h w i out) (grid_h s h w i) (grid_w s w i) room ≡ Ok (pictured (tile_height s h w i) (tile_width s w i))
  pub bytes : bytes_of s (patches_at s rgb h w i out) (grid_h s h w i) (grid_w s w i) ≡ tile_bytes s rgb h w i
  pub answer : untiled s (patches_at s rgb h w i out) h w i (length old) ≡ tile_of s h w i
  pub output : bytes_out s (patches_at s rgb h w i out) h w i old ≡ put_tile s h w i (tile_bytes s rgb h w i) old

abbrev pub Undo : Type 0
Undo = (s : PictureSettings) (rgb : List ℕ) (h w i : ℕ) (out : List Float) (room : ℕ) (old : List ℕ)
    → Bytes rgb
    → tiled s (length rgb) h w i (length out) ≡ tile_of s h w i
    → h * w * 3 ≤ length old
    → Back s rgb h w i out room old

-- ---- 3. Joining all tiles, in any order and however often, over anything, gives the sweep's own bytes

-- what the calls leave of old that restore the tiles of a list, one after another; l i are the patches of tile i
unfoldable pub restored_all : PictureSettings → (ℕ → List Float) → ℕ → ℕ → List ℕ → List ℕ → List ℕ
restored_all s l h w [] old = old
restored_all s l h w (i ∷ is) old = restored_all s l h w is (bytes_out s (l i) h w i old)

abbrev pub Join : Type 0
Join = (s : PictureSettings) (rgb : List ℕ) (h w : ℕ) (out : ℕ → List Float) (is old : List ℕ)
    → Bytes rgb
    → ((i : ℕ) → i < tiles s h w → tiled s (length rgb) h w i (length (out i)) ≡ tile_of s h w i)
    → 0 < tiles s h w
    → length old ≡ h * w * 3
    → ((i : ℕ) → i < tiles s h w → Has i is)
    → restored_all s (λ i. patches_at s rgb h w i (out i)) h w is old ≡ rgb

-- ---- 4. A tile's restore gives 8 exactly when no sweep of these sides gives these patches at this index

-- its numbers before 8 do not apply
pub record Given (s : PictureSettings) (len h w i room : ℕ) : Type 0 where
  pub ready : Ready s
  pub channels : channels_allowed (value_of s) ≡ true
  pub sides : sided h w ≡ true
  pub cut : i < tiles s h w
  pub samples : len ≡ tile_floats s h w i
  pub space : h * w * 3 ≤ room

pub record Source (k : ℕ → ℕ → ℕ) (s : PictureSettings) (l : List Float) (h w i : ℕ) : Type 0 where
  pub rgb : List ℕ
  pub bytes : Bytes rgb
  pub long : length rgb ≡ h * w * 3
  pub given : tile_patches k s rgb h w i ≡ l

pub record Exactly (s : PictureSettings) (l : List Float) (h w i room : ℕ) : Type 0 where
  pub none : untiled s l h w i room ≡ Err Sample → Source (pattern_of s) s l h w i → ⊥
  pub refused : (Source (pattern_of s) s l h w i → ⊥) → untiled s l h w i room ≡ Err Sample

abbrev pub Eight : Type 0
Eight = (s : PictureSettings) (l : List Float) (h w i room : ℕ) → Floats l → Given s (length l) h w i room → Exactly s l h w i room

-- ---- 5. The grid of every tile is one that forward accepts: of its numbers 1, 6 and 7 none applies
abbrev pub Forwarded : Type 0
Forwarded = (s : PictureSettings) (len h w i room : ℕ) → tiled s len h w i room ≡ tile_of s h w i → shaped s (grid_h s h w i) (grid_w s w i) (tile_floats s h w i) ≡ Ok (grid_h s h w i * grid_w s w i)
