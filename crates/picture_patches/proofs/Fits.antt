-- What the test of a resized picture's patches says, and when it passes. Assumes nothing.
use mathlib.Core.Path.{◌≡◌, refl}
use mathlib.Core.Bool.{true, ◌&&◌}
use mathlib.Core.List.{List}
use Prim.Native.Nat.{ℕ, ◌*◌, ◌/◌, ◌≤◌}
use borrow.Author.Tests.{eq-eqb, le-leb, eqb-true, leb-true}
use lib.Dec.{leb, eqb}
use lib.ListN.{length}
use lib.Ieee.{Float}
use Rattle.buffers.specs.Region.{over}
use Rattle.buffers.proofs.Lists.{and_left, and_right}
use Rattle.picture_limits.specs.Settings.{within, sided}
use Rattle.picture_limits.specs.Places.{patch_floats}
use Rattle.picture_limits.proofs.Sides.{within-says}
use Rattle.picture_samples.specs.Samples.{channels_allowed, value}
use Rattle.picture_limits.specs.declared.View.{View}
use Rattle.picture_limits.specs.View.{inside}
use Rattle.picture_patches.specs.Resized.{resized_patches, fits, patches_over}
use Rattle.picture_patches.specs.Viewed.{view_patches, view_over}

pub record Fits (len h w th tw p room : ℕ) : Type 0 where
  pub sides : sided h w ≡ true
  pub tall : th ≤ 2048
  pub wide : tw ≤ 2048
  pub patch-low : 1 ≤ p
  pub patch-high : p ≤ 32
  pub bytes : len ≡ h * w * 3
  pub space : th / p * (tw / p) * patch_floats p ≤ room

pub fits-says : (len h w th tw p room : ℕ) → fits len h w th tw p room ≡ true → Fits len h w th tw p room
unfolding fits
fits-says len h w th tw p room e =
    let A = sided h w in
    let B = leb th 2048 in
    let C = leb tw 2048 in
    let D = within 1 32 p in
    let E = eqb len (h * w * 3) in
    let F = leb (th / p * (tw / p) * patch_floats p) room in
    let r = and_right A (B && C && D && (E && F)) e in
    let x = and_left (B && C && D) (E && F) r in
    let y = and_right (B && C && D) (E && F) r in
    let d = within-says 1 32 p (and_right (B && C) D x) in
    record {
      sides = and_left A (B && C && D && (E && F)) e;
      tall = leb-true _ _ (and_left B C (and_left (B && C) D x));
      wide = leb-true _ _ (and_right B C (and_left (B && C) D x));
      patch-low = d.0;
      patch-high = d.1;
      bytes = eqb-true _ _ (and_left E F y);
      space = leb-true _ _ (and_right E F y);
    }

pub fits-where : (len h w th tw p room : ℕ) → Fits len h w th tw p room → fits len h w th tw p room ≡ true
unfolding fits
fits-where len h w th tw p room f =
    rw (f.sides, le-leb _ _ f.tall, le-leb _ _ f.wide, le-leb _ _ f.patch-low, le-leb _ _ f.patch-high, eq-eqb _ _ f.bytes, le-leb _ _ f.space) refl

-- where they fit, they are written
pub written : (k : ℕ → ℕ → ℕ) (rgb : List ℕ) (h w th tw p : ℕ) (old : List Float) → channels_allowed (value k) ≡ true → fits (length rgb) h w th tw p (length old) ≡ true
    → patches_over k rgb h w th tw p old ≡ over (resized_patches (value k) rgb h w th tw p) old
unfolding patches_over
written k rgb h w th tw p old a e = rw (a, e) refl

pub view-written : (k : ℕ → ℕ → ℕ) (rgb : List ℕ) (h w : ℕ) (v : View) (th tw p : ℕ) (old : List Float) → channels_allowed (value k) ≡ true → fits (length rgb) h w th tw p (length old) ≡ true → inside v h w ≡ true
    → view_over k rgb h w v th tw p old ≡ over (view_patches (value k) rgb w v th tw p) old
unfolding view_over
view-written k rgb h w v th tw p old a e i = rw (a, e, i) refl
