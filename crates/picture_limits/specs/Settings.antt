-- Allowed settings and sides. Assumes nothing.
use Rattle.std.specs.Prelude.{Bool, ◌&&◌, ℕ, ◌*◌, leb}
use Rattle.picture_limits.specs.declared.PictureSettings.{PictureSettings}

-- low ≤ x ≤ high
abbrev pub within : ℕ → ℕ → ℕ → Bool
within low high x = leb low x && leb x high

unfoldable pub allowed : PictureSettings → Bool
allowed s = within 1 32 s.patch_size && within 1 4 s.spatial_merge_size && within 1 2048 s.image_size && within 1 2 s.resize_rule

-- height and width
abbrev pub sided : ℕ → ℕ → Bool
sided h w = within 1 8192 h && within 1 8192 w

-- A = patch × merge
abbrev pub align : PictureSettings → ℕ
align s = s.patch_size * s.spatial_merge_size
