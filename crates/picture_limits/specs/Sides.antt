-- The sides of the resized picture, by the resize rule. Assumes nothing.
use Rattle.std.specs.Prelude.{◌&&◌, cond, ℕ, ◌+◌, ◌-◌, ◌*◌, ◌/◌, min, max, eqb, ltb}
use Rattle.picture_limits.specs.declared.PictureSettings.{PictureSettings}
use Rattle.picture_limits.specs.Settings.{align}

-- Before the rounding, with n the image size and m the longer side: under rule 2, when m is above n, a side x is replaced
-- by x × n / m, and by 1 where that is 0; else it stays
unfoldable pub kept : ℕ → ℕ → ℕ → ℕ → ℕ
kept rule n m x = cond (eqb rule 2 && ltb n m) (max 1 (x * n / m)) x

-- rounded up to a multiple of a, cut to n, rounded down to a multiple of a
unfoldable pub side : ℕ → ℕ → ℕ → ℕ
side a n x = min ((x + (a - 1)) / a * a) n / a * a

-- a side x of a picture whose longer side is m, resized; and how many patches it has
abbrev pub resized : PictureSettings → ℕ → ℕ → ℕ
resized s m x = side (align s) s.image_size (kept s.resize_rule s.image_size m x)

abbrev pub grid_of : PictureSettings → ℕ → ℕ → ℕ
grid_of s m x = resized s m x / s.patch_size

-- of h rows of w pixels: the rows and columns of the resized picture, and of its grid
abbrev pub th_of : PictureSettings → ℕ → ℕ → ℕ
th_of s h w = resized s (max h w) h

abbrev pub tw_of : PictureSettings → ℕ → ℕ → ℕ
tw_of s h w = resized s (max h w) w

abbrev pub gh_of : PictureSettings → ℕ → ℕ → ℕ
gh_of s h w = grid_of s (max h w) h

abbrev pub gw_of : PictureSettings → ℕ → ℕ → ℕ
gw_of s h w = grid_of s (max h w) w
