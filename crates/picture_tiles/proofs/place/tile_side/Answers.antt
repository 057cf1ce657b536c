-- `picture_tiles::place::tile_side` meets its contract. Assumes nothing.
use native.Mathlib.Omega.{arith}
use Rattle.picture_limits.proofs.Places.{times}
use Rattle.picture_limits.proofs.Sides.{allowed-says}
use Rattle.picture_tiles.proofs.Cuts.{align-low, side-high}
use Rattle.picture_tiles.proofs.place.tile_side.Goals as goal

pub overflow_mul-a : goal.overflow_mul-a
overflow_mul-a c = let s = c.args.s in let o = allowed-says s c.requires.settings in omega (arith, times c.args.s.patch_size c.args.s.spatial_merge_size 32 4 o.patch-high o.merge-high)

pub nonzero_div-result : goal.nonzero_div-result
nonzero_div-result c = omega (arith, align-low c.args.s c.requires.settings)

pub overflow_mul-result : goal.overflow_mul-result
overflow_mul-result c = omega (arith, side-high c.args.s, (allowed-says c.args.s c.requires.settings).image-high)
