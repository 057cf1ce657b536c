-- What the test of a view's patches says, and where rows and lines of patches can be written. Assumes nothing.
use mathlib.Core.Path.{◌≡◌}
use mathlib.Core.Bool.{true, ◌&&◌}
use Prim.Native.Nat.{ℕ, ◌+◌, ◌*◌, ◌/◌, ◌≤◌, ◌<◌}
use native.Mathlib.Nat.{add-mul, add-zero, mul_assoc, lt_of_mul-lt-mul_right, div-lt_iff_lt-mul}
use native.Mathlib.Omega.{arith}
use borrow.Author.Tests.{eqb-true, leb-true}
use lib.Dec.{leb, eqb}
use Rattle.buffers.proofs.Lists.{fit, and_left, and_right}
use Rattle.picture_limits.specs.declared.View.{View}
use Rattle.picture_limits.specs.View.{inside}
use Rattle.picture_limits.specs.Settings.{within, sided}
use Rattle.picture_limits.specs.Places.{patch_floats}
use Rattle.picture_limits.proofs.Places.{quotient}
use Rattle.picture_limits.proofs.Sides.{within-says, sided-says}
use Rattle.picture_limits.proofs.Views.{inside-says}
use Rattle.picture_view.specs.View.{view_place, view_fits}
use Rattle.picture_view.specs.inner.Rows.{Line, Rows}
use Rattle.picture_view.proofs.Written.{Next}

pub record Fits (len p gh gw : ℕ) (v : View) (h w room : ℕ) : Type 0 where
  pub tall : h ≤ 8192
  pub wide : w ≤ 8192
  pub patch-low : 1 ≤ p
  pub patch-high : p ≤ 32
  pub grid-tall : gh ≤ 2048
  pub grid-wide : gw ≤ 2048
  pub ends : v.top + v.height ≤ h
  pub stops : v.left + v.width ≤ w
  pub samples : len ≡ gh * gw * patch_floats p
  pub rows : v.height ≤ gh * p
  pub columns : v.width ≤ gw * p
  pub space : h * w * 3 ≤ room

pub fits-says : (len p gh gw : ℕ) (v : View) (h w room : ℕ) → view_fits len p gh gw v h w room ≡ true → Fits len p gh gw v h w room
unfolding view_fits
fits-says len p gh gw v h w room e =
    let A = sided h w in
    let B = within 1 32 p in
    let C = leb gh 2048 in
    let D = leb gw 2048 in
    let E = inside v h w in
    let F = eqb len (gh * gw * patch_floats p) in
    let G = leb v.height (gh * p) in
    let H = leb v.width (gw * p) in
    let I = leb (h * w * 3) room in
    let X = F && G && H && I in
    let x = and_right A (B && C && D && (E && X)) e in
    let y = and_left (B && C && D) (E && X) x in
    let z = and_right (B && C && D) (E && X) x in
    let u = and_right E X z in
    let d = sided-says h w (and_left A (B && C && D && (E && X)) e) in
    let q = within-says 1 32 p (and_left B C (and_left (B && C) D y)) in
    let i = inside-says v h w (and_left E X z) in
    record {
      tall = d.1;
      wide = d.3;
      patch-low = q.0;
      patch-high = q.1;
      grid-tall = leb-true gh 2048 (and_right B C (and_left (B && C) D y));
      grid-wide = leb-true gw 2048 (and_right (B && C) D y);
      ends = i.0;
      stops = i.1;
      samples = eqb-true _ _ (and_left F G (and_left (F && G) H (and_left (F && G && H) I u)));
      rows = leb-true _ _ (and_right F G (and_left (F && G) H (and_left (F && G && H) I u)));
      columns = leb-true _ _ (and_right (F && G) H (and_left (F && G && H) I u));
      space = leb-true _ _ (and_right (F && G && H) I u);
    }

-- rows of the picture can be written where each has its room
pub rows_fit : (p gh gw tall wide at stride len room : ℕ) → 1 ≤ p → p ≤ 32 → gw ≤ 2048 → tall ≤ gh * p → wide ≤ gw * p → len ≡ gh * gw * patch_floats p → wide * 3 ≤ stride
    → ((y : ℕ) → y < tall → at + y * stride + wide * 3 ≤ room) → Rows p gw tall wide at stride len room
rows_fit p gh gw tall wide at stride len room low high few t w e d s = record {
  patch-low = low;
  patch-high = high;
  grid-high = few;
  columns = w;
  samples = λ y h.
      let l : y < gh * p = omega arith in
      let m = gw * patch_floats p in
      omega (arith, e, mul_assoc gh gw (patch_floats p), fit m ((div-lt_iff_lt-mul low).1 l));
  apart = d;
  space = s;
}

-- then the patches of line a are there, and its rows can be written
pub line-in : (p gw tall wide at stride len room a y : ℕ) → Rows p gw tall wide at stride len room → y < tall → y ≡ a * p → a * (gw * patch_floats p) + gw * patch_floats p ≤ len
line-in p gw tall wide at stride len room a y f h e =
    let q : y / p ≡ a = rw (e, ← add-zero (a * p)) (quotient p f.patch-low a 0 f.patch-low) in
    rw q at (f.samples y h)

pub line-fits : (p gw tall wide at stride len room a y n : ℕ) → Rows p gw tall wide at stride len room → y < tall → y ≡ a * p → Next a y p tall n
    → Line p (a * (gw * patch_floats p)) n wide (at + y * stride) stride len room
line-fits p gw tall wide at stride len room a y n f h e z = record {
  patch-low = f.patch-low;
  patch-high = f.patch-high;
  rows-low = z.some;
  rows-high = z.few;
  samples = λ b k.
      let l : b * p < gw * p = omega (arith, k, f.columns) in
      omega (arith, line-in p gw tall wide at stride len room a y f h e, fit (patch_floats p) (lt_of_mul-lt-mul_right p l));
  apart = f.apart;
  space = λ i k. let l : y + i < tall = omega (arith, k, z.inside) in omega (arith, f.space (y + i) l, add-mul y i stride);
}

-- row y of a view starts y rows behind its first
pub place_at : (w : ℕ) (v : View) (y : ℕ) → (v.top * w + v.left) * 3 + y * (w * 3) ≡ view_place w v y
place_at w v y = omega (arith, add-mul v.top y w, mul_assoc y w 3)

pub view-rows : (len p gh gw : ℕ) (v : View) (h w room : ℕ) → Fits len p gh gw v h w room → Rows p gw v.height v.width ((v.top * w + v.left) * 3) (w * 3) len room
view-rows len p gh gw v h w room f =
    rows_fit p gh gw v.height v.width ((v.top * w + v.left) * 3) (w * 3) len room f.patch-low f.patch-high f.grid-wide f.rows f.columns f.samples (omega (arith, f.stops))
    (λ y hy.
    let l : v.top + y < h = omega (arith, hy, f.ends) in
    omega (arith, place_at w v y, fit w l, f.stops, f.space))
