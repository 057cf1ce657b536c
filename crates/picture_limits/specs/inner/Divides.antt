-- What the test of a grid's side asks. Assumes nothing.
use Rattle.std.specs.Prelude.{◌≤◌}
use Rattle.picture_limits.specs.declared.PictureSettings.{PictureSettings}

pub record Divides (s : PictureSettings) : Type 0 where
  pub patch-low : 1 ≤ s.patch_size
  pub merge_low : 1 ≤ s.spatial_merge_size
