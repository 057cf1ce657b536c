-- Numbers 1, 6 and 7: the settings, the grid and the length of the patches. Assumes nothing.
use Rattle.std.specs.Prelude.{Bool, ◌&&◌, ℕ, ◌*◌, ◌/◌, ◌%◌, eqb, Result, Ok, Err}
use Rattle.picture_limits.specs.declared.PictureSettings.{PictureSettings}
use Rattle.picture_limits.specs.declared.Refusal.TheVariants.{Setting, Grid, PatchesLength}
use Rattle.picture_limits.specs.declared.Refusal.{Refusal}
use Rattle.picture_limits.specs.Refusal.{unless}
use Rattle.picture_limits.specs.Settings.{within, allowed}
use Rattle.picture_limits.specs.Places.{patch_floats}

-- P, the most patches along a side
abbrev pub most : PictureSettings → ℕ
most s = s.image_size / s.patch_size

-- a side of a grid: from 1 to P, divisible by merge
abbrev pub grid_allowed : PictureSettings → ℕ → Bool
grid_allowed s g = within 1 (most s) g && eqb (g % s.spatial_merge_size) 0

-- the tokens, or the refusal; n is the length of the patches
unfoldable pub shaped : PictureSettings → ℕ → ℕ → ℕ → Result ℕ Refusal
shaped s gh gw n =
    unless (allowed s) (Err Setting)
    (unless (grid_allowed s gh && grid_allowed s gw) (Err Grid)
    (unless (eqb n (gh * gw * patch_floats s.patch_size)) (Err PatchesLength)
    (Ok (gh * gw))))
