-- What an accepted shape says: settings, grid and length in their ranges, so that no size wraps. Assumes nothing.
use mathlib.Core.Path.{◌≡◌}
use Rattle.std.specs.Prelude.{Ok, Err}
use mathlib.Core.Bool.{Bool, true, ◌&&◌}
use Prim.Native.Nat.{ℕ, ◌*◌, ◌%◌, ◌≤◌}
use native.Mathlib.Nat.{div-le_self, le-div_iff_mul-le}
use native.Mathlib.Omega.{arith}
use borrow.Author.Tests.{eqb-true}
use lib.Dec.{eqb}
use Rattle.buffers.proofs.Lists.{and_left, and_right}
use Rattle.picture_limits.specs.declared.PictureSettings.{PictureSettings}
use Rattle.picture_limits.specs.declared.Refusal.{Refusal}
use Rattle.picture_limits.specs.declared.Refusal.TheVariants.{Setting, Grid, PatchesLength}
use Rattle.picture_limits.specs.Settings.{within, allowed}
use Rattle.picture_limits.specs.Places.{patch_floats}
use Rattle.picture_limits.specs.Shape.{most, grid_allowed, shaped}
use Rattle.picture_limits.proofs.Places.{square, times}
use Rattle.picture_limits.proofs.Refusals.{passed}
use Rattle.picture_limits.proofs.Sides.{Allowed, allowed-says, within-says}

-- a grid's side
pub record GridSide (p m n g : ℕ) : Type 0 where
  pub low : 1 ≤ g
  pub high : g * p ≤ n
  pub few : g ≤ n
  pub even : g % m ≡ 0

pub grid-side-says : (s : PictureSettings) (g : ℕ) → 1 ≤ s.patch_size → grid_allowed s g ≡ true
    → GridSide s.patch_size s.spatial_merge_size s.image_size g
grid-side-says s g h e =
    let w = within 1 (most s) g in
    let x = eqb (g % s.spatial_merge_size) 0 in
    let i = within-says 1 (most s) g (and_left w x e) in
    record {
      low = i.0;
      high = (le-div_iff_mul-le h).0 i.1;
      few = omega (arith, i.1, div-le_self s.image_size s.patch_size);
      even = eqb-true (g % s.spatial_merge_size) 0 (and_right w x e);
    }

-- allowed settings, an allowed grid, and the bounds of their products
pub record Grids (s : PictureSettings) (gh gw : ℕ) : Type 0 where
  pub settings : Allowed s.patch_size s.spatial_merge_size s.image_size
  pub tall : GridSide s.patch_size s.spatial_merge_size s.image_size gh
  pub wide : GridSide s.patch_size s.spatial_merge_size s.image_size gw
  pub area : s.patch_size * s.patch_size ≤ 1024
  pub tokens : gh * gw ≤ 4194304
  pub floats : gh * gw * patch_floats s.patch_size ≤ 12884901888
  pub pixels : gh * s.patch_size * (gw * s.patch_size) ≤ 4194304

pub grids-say : (s : PictureSettings) (gh gw : ℕ) → allowed s ≡ true → grid_allowed s gh && grid_allowed s gw ≡ true → Grids s gh gw
grids-say s gh gw a e =
    let p = s.patch_size in
    let r = allowed-says s a in
    let h = grid-side-says s gh r.patch-low (and_left (grid_allowed s gh) (grid_allowed s gw) e) in
    let w = grid-side-says s gw r.patch-low (and_right (grid_allowed s gh) (grid_allowed s gw) e) in
    let i : gh ≤ 2048 = omega (arith, h.few, r.image-high) in
    let j : gw ≤ 2048 = omega (arith, w.few, r.image-high) in
    let y : gh * p ≤ 2048 = omega (arith, h.high, r.image-high) in
    let x : gw * p ≤ 2048 = omega (arith, w.high, r.image-high) in
    let q = square p r.patch-high in
    let f : patch_floats p ≤ 3072 = omega (arith, q) in
    let t = times gh gw 2048 2048 i j in
    record {
      settings = r;
      tall = h;
      wide = w;
      area = q;
      tokens = t;
      floats = times (gh * gw) (patch_floats p) 4194304 3072 t f;
      pixels = times (gh * p) (gw * p) 2048 2048 y x;
    }

never : (r : Refusal) (t : ℕ) → Err r ≡ Ok t → ⊥
never r t e = let z : ◌≡◌ {A = ℕ} 0 1 = cc in omega arith

-- what an accepted shape says
pub record Accepted (s : PictureSettings) (gh gw n t : ℕ) : Type 0 where
  pub accepts : allowed s ≡ true
  pub grids : Grids s gh gw
  pub tokens : t ≡ gh * gw
  pub samples : n ≡ gh * gw * patch_floats s.patch_size

pub shaped-says : (s : PictureSettings) (gh gw n t : ℕ) → shaped s gh gw n ≡ Ok t → Accepted s gh gw n t
unfolding shaped
shaped-says s gh gw n t e =
    let m = gh * gw * patch_floats s.patch_size in
    let g = grid_allowed s gh && grid_allowed s gw in
    let a = passed (allowed s) _ _ (Ok t) (never Setting t) e in
    let b = passed g _ _ (Ok t) (never Grid t) a.1 in
    let d = passed (eqb n m) _ _ (Ok t) (never PatchesLength t) b.1 in
    let h = d.1 in
    record { accepts = a.0; grids = grids-say s gh gw a.0 b.0; tokens = cc; samples = eqb-true n m d.0 }
