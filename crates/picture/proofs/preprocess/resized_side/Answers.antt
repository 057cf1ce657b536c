-- `picture::preprocess::resized_side` meets its contract. Assumes nothing.
use mathlib.Core.Path.{ap, ◌∙◌}
use native.Mathlib.Omega.{arith}
use Rattle.picture_limits.specs.Settings.{align}
use Rattle.picture_limits.specs.Sides.{side}
use Rattle.picture_limits.proofs.Places.{times}
use Rattle.picture_limits.proofs.Sides.{Allowed, allowed-says, kept_high}
use Rattle.picture.proofs.preprocess.resized_side.Goals as goal

pub kept_side-y-requires : goal.kept_side-y-requires
kept_side-y-requires c =
    let known : Allowed c.args.s.patch_size c.args.s.spatial_merge_size c.args.s.image_size = allowed-says c.args.s c.requires.0 in
    let k = known in (omega (arith, c.requires.1, c.requires.2), k.image-high, omega (arith, c.requires.1, c.requires.3))

pub overflow_mul-s : goal.overflow_mul-s
overflow_mul-s c =
    let known : let s = c.args.s in Allowed c.args.s.patch_size c.args.s.spatial_merge_size c.args.s.image_size = allowed-says c.args.s c.requires.0 in
    let s = c.args.s in
    let k = known in omega (arith, times c.args.s.patch_size c.args.s.spatial_merge_size 32 4 k.patch-high k.merge-high)

pub side_of-requires : goal.side_of-requires
side_of-requires c =
    let known : let s = c.args.s in Allowed c.args.s.patch_size c.args.s.spatial_merge_size c.args.s.image_size = allowed-says c.args.s c.requires.0 in
    let s = c.args.s in
    let k = known in (
      omega (arith, times 1 1 c.args.s.patch_size c.args.s.spatial_merge_size k.patch-low k.merge_low),
      times c.args.s.patch_size c.args.s.spatial_merge_size 32 4 k.patch-high k.merge-high,
      omega (arith, c.kept_side-y.ensures, kept_high c.args.s.resize_rule c.args.s.image_size c.args.m c.args.x c.requires.2, c.requires.1, c.requires.3),
    )

pub returns : goal.returns
returns c = let s = c.args.s in c.side_of.ensures ∙ ap (side (align s) c.args.s.image_size) c.kept_side-y.ensures
