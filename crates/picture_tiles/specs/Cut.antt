-- The cut of a sweep, h rows of w columns, into tiles, counted row by row. Assumes nothing.
use Rattle.std.specs.Prelude.{◌≡◌, Bool, true, ℕ, ◌+◌, ◌-◌, ◌*◌, ◌/◌, ◌%◌, ◌≤◌, min, ltb}
use Rattle.picture_limits.specs.declared.PictureSettings.{PictureSettings}
use Rattle.picture_limits.specs.Settings.{allowed, align}

-- ---- along one side, n long

-- how many pieces t long cover it, the last one smaller
abbrev pub pieces : ℕ → ℕ → ℕ
pieces t n = (n + (t - 1)) / t

-- what piece j has of it
abbrev pub own : ℕ → ℕ → ℕ → ℕ
own t n j = min t (n - j * t)

-- x rounded up to a multiple of a
abbrev pub up : ℕ → ℕ → ℕ
up a x = (x + (a - 1)) / a * a

-- ---- the tiles

-- settings under which there are tiles
pub record Ready (s : PictureSettings) : Type 0 where
  pub settings : allowed s ≡ true
  pub image : align s ≤ s.image_size

-- s, the largest multiple of A = patch × merge not above image size
abbrev pub tile_side : PictureSettings → ℕ
tile_side s = s.image_size / align s * align s

-- how many tiles stand below each other, side by side, and in all
abbrev pub down : PictureSettings → ℕ → ℕ
down s h = pieces (tile_side s) h

abbrev pub across : PictureSettings → ℕ → ℕ
across s w = pieces (tile_side s) w

abbrev pub tiles : PictureSettings → ℕ → ℕ → ℕ
tiles s h w = down s h * across s w

-- tile i is one of them
abbrev pub in_cut : PictureSettings → ℕ → ℕ → ℕ → Bool
in_cut s h w i = ltb i (tiles s h w)

-- the first row and column of tile i
abbrev pub top : PictureSettings → ℕ → ℕ → ℕ
top s w i = i / across s w * tile_side s

abbrev pub left : PictureSettings → ℕ → ℕ → ℕ
left s w i = i % across s w * tile_side s

-- the rows and columns of the sweep that it has
abbrev pub own_height : PictureSettings → ℕ → ℕ → ℕ → ℕ
own_height s h w i = own (tile_side s) h (i / across s w)

abbrev pub own_width : PictureSettings → ℕ → ℕ → ℕ
own_width s w i = own (tile_side s) w (i % across s w)

-- its sides with the padding: rounded up to a multiple of A
abbrev pub tile_height : PictureSettings → ℕ → ℕ → ℕ → ℕ
tile_height s h w i = up (align s) (own_height s h w i)

abbrev pub tile_width : PictureSettings → ℕ → ℕ → ℕ
tile_width s w i = up (align s) (own_width s w i)

-- how many patches it has below each other and side by side
abbrev pub grid_h : PictureSettings → ℕ → ℕ → ℕ → ℕ
grid_h s h w i = tile_height s h w i / s.patch_size

abbrev pub grid_w : PictureSettings → ℕ → ℕ → ℕ
grid_w s w i = tile_width s w i / s.patch_size
