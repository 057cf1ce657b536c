-- How large the numbers of a cut and of a tile can be. Assumes nothing.
use mathlib.Core.Path.{◌≡◌}
use mathlib.Core.Bool.{true}
use Prim.Native.Nat.{ℕ, ◌+◌, ◌*◌, ◌-◌, ◌≤◌, ◌<◌}
use native.Mathlib.Nat.{mul-le-mul_left, div-lt_iff_lt-mul}
use native.Mathlib.Omega.{arith}
use Rattle.picture_limits.specs.declared.PictureSettings.{PictureSettings}
use Rattle.picture_limits.specs.Settings.{sided}
use Rattle.picture_limits.specs.Places.{patch_floats}
use Rattle.picture_limits.proofs.Places.{times, square}
use Rattle.picture_limits.proofs.Sides.{allowed-says, sided-says, spans}
use Rattle.picture_tiles.specs.Cut.{Ready, pieces, tile_side, down, across, tiles, top, left, own_height, own_width, tile_height, tile_width, grid_h, grid_w}
use Rattle.picture_tiles.proofs.Cuts.{side-high, side-some, tiled}

-- as many pieces as places at most
pieces-few : (t n : ℕ) → 1 ≤ t → n ≤ 8192 → pieces t n ≤ 8192
pieces-few t n h k =
    let e : n + (t - 1) < 8193 * t = omega (arith, mul-le-mul_left 8192 h) in
    let l : pieces t n < 8193 = (div-lt_iff_lt-mul h).1 e in
    omega (arith, l)

pub record Bounds (s : PictureSettings) (h w : ℕ) : Type 0 where
  pub side-low : 1 ≤ tile_side s
  pub side-high : tile_side s ≤ 2048
  pub tall : h ≤ 8192
  pub wide : w ≤ 8192
  pub few-down : down s h ≤ 8192
  pub few-across : across s w ≤ 8192

pub bounds : (s : PictureSettings) (h w : ℕ) → Ready s → sided h w ≡ true → Bounds s h w
bounds s h w q d =
    let o = allowed-says s q.settings in
    let t = sided-says h w d in
    let low = side-some s q in
    record {
      side-low = low;
      side-high = omega (arith, side-high s, o.image-high);
      tall = t.1;
      wide = t.3;
      few-down = pieces-few (tile_side s) h low t.1;
      few-across = pieces-few (tile_side s) w low t.3;
    }

-- of tile i
pub record Inside (s : PictureSettings) (h w i : ℕ) : Type 0 where
  pub ends : top s w i + own_height s h w i ≤ h
  pub stops : left s w i + own_width s w i ≤ w
  pub tall : own_height s h w i ≤ 2048
  pub wide : own_width s w i ≤ 2048
  pub rows : own_height s h w i ≤ grid_h s h w i * s.patch_size
  pub columns : own_width s w i ≤ grid_w s w i * s.patch_size
  pub grid-tall : grid_h s h w i ≤ 2048
  pub grid-wide : grid_w s w i ≤ 2048
  pub span-tall : grid_h s h w i * s.patch_size ≤ 2048
  pub span-wide : grid_w s w i * s.patch_size ≤ 2048
  pub patch : s.patch_size * s.patch_size ≤ 1024
  pub tokens : grid_h s h w i * grid_w s w i ≤ 4194304
  pub floats : grid_h s h w i * grid_w s w i * patch_floats s.patch_size ≤ 12884901888

pub inside_of : (s : PictureSettings) (h w i : ℕ) → Ready s → i < tiles s h w → Inside s h w i
inside_of s h w i q l =
    let t = tiled s h w i q l in
    let a = t.tall in
    let b = t.wide in
    let o = allowed-says s q.settings in
    let p = s.patch_size in
    let gh = grid_h s h w i in
    let gw = grid_w s w i in
    let x = spans (tile_height s h w i) p o.patch-low (omega (arith, a.image, o.image-high)) in
    let y = spans (tile_width s w i) p o.patch-low (omega (arith, b.image, o.image-high)) in
    let n = times gh gw 2048 2048 x.low y.low in
    let sq = square p o.patch-high in
    let f : patch_floats p ≤ 3072 = omega arith in
    record {
      ends = a.ends;
      stops = b.ends;
      tall = omega (arith, a.covers, a.image, o.image-high);
      wide = omega (arith, b.covers, b.image, o.image-high);
      rows = omega (arith, a.covers, a.span);
      columns = omega (arith, b.covers, b.span);
      grid-tall = x.low;
      grid-wide = y.low;
      span-tall = x.span;
      span-wide = y.span;
      patch = sq;
      tokens = n;
      floats = times (gh * gw) (patch_floats p) 4194304 3072 n f;
    }
