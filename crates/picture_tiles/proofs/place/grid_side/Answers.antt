-- `picture_tiles::place::grid_side` meets its contract. Assumes nothing.
use Prim.Native.Nat.{◌+◌, ◌-◌, ◌≤◌}
use native.Mathlib.Nat.{div-mul-le_self}
use native.Mathlib.Omega.{arith}
use Rattle.picture_limits.specs.declared.PictureSettings.{PictureSettings}
use Rattle.picture_limits.specs.Settings.{align}
use Rattle.picture_limits.proofs.Places.{times}
use Rattle.picture_limits.proofs.Sides.{allowed-says}
use Rattle.picture_tiles.specs.Cut.{Ready}
use Rattle.picture_tiles.proofs.Cuts.{align-low}
use Rattle.picture_tiles.proofs.place.grid_side.Goals as goal

record Sizes (s : PictureSettings) : Type 0 where
  patch : 1 ≤ s.patch_size
  low : 1 ≤ align s
  high : align s ≤ 128

sizes : (s : PictureSettings) → Ready s → Sizes s
sizes s q =
    let o = allowed-says s q.settings in
    record {
      patch = o.patch-low;
      low = align-low s q.settings;
      high = times s.patch_size s.spatial_merge_size 32 4 o.patch-high o.merge-high;
    }

pub overflow_mul-a : goal.overflow_mul-a
overflow_mul-a c = let z = sizes c.args.s c.requires.0 in omega (arith, z.high)

pub overflow_sub-result : goal.overflow_sub-result
overflow_sub-result c = let z = sizes c.args.s c.requires.0 in omega (arith, z.low)

pub overflow_add-result : goal.overflow_add-result
overflow_add-result c = let z = sizes c.args.s c.requires.0 in omega (arith, z.high, c.requires.1)

pub nonzero_div-result : goal.nonzero_div-result
nonzero_div-result c = let z = sizes c.args.s c.requires.0 in omega (arith, z.low)

pub overflow_mul-result : goal.overflow_mul-result
overflow_mul-result c =
    let z = sizes c.args.s c.requires.0 in
    omega (arith, z.high, c.requires.1, div-mul-le_self (c.args.n + (align c.args.s - 1)) (align c.args.s))

pub nonzero_div-result-2 : goal.nonzero_div-result-2
nonzero_div-result-2 c = let z = sizes c.args.s c.requires.0 in omega (arith, z.patch)
