-- When preprocess accepts, and what an acceptance says. Assumes nothing.
use Rattle.std.specs.Prelude.{Result, Ok, Err}
use mathlib.Core.Path.{◌≡◌, sym, ap}
use mathlib.Core.Bool.{true}
use mathlib.Core.List.{List}
use Prim.Native.Nat.{ℕ, ◌*◌, ◌≤◌}
use native.Mathlib.Omega.{arith}
use borrow.Author.Tests.{eq-eqb, le-leb, eqb-true, leb-true}
use lib.Dec.{eqb, leb}
use lib.ListN.{length}
use lib.Ieee.{Float}
use Rattle.picture_limits.specs.declared.PictureSettings.{PictureSettings}
use Rattle.picture_limits.specs.declared.Refusal.{Refusal}
use Rattle.picture_limits.specs.declared.Refusal.TheVariants.{Setting, Channel, Side, RgbLength, ImageSize, Output}
use Rattle.picture.specs.declared.Patches.{Patches}
use Rattle.buffers.specs.Region.{over}
use Rattle.picture_limits.specs.Settings.{allowed, sided, align}
use Rattle.picture_samples.specs.Samples.{channels_allowed, value_of}
use Rattle.picture_limits.specs.Sides.{gh_of, gw_of}
use Rattle.picture.specs.Preprocess.{sized, floats_of, preprocessed, grid_h, grid_w, floats, patches_of, patches_left}
use Rattle.picture_limits.proofs.Refusals.{passed}

-- what preprocess asks
pub record Accepts (s : PictureSettings) (len h w room : ℕ) : Type 0 where
  pub settings : allowed s ≡ true
  pub channels : channels_allowed (value_of s) ≡ true
  pub sides : sided h w ≡ true
  pub bytes : len ≡ h * w * 3
  pub image : align s ≤ s.image_size
  pub fits : floats_of s h w ≤ room

pub accepted : (s : PictureSettings) (len h w room : ℕ) → Accepts s len h w room → preprocessed s len h w room ≡ Ok (sized (gh_of s h w) (gw_of s h w) (floats_of s h w))
unfolding preprocessed
accepted s len h w room a = simp (a.settings, a.channels, a.sides, eq-eqb _ _ a.bytes, le-leb _ _ a.image, le-leb _ _ a.fits)

-- a refusal is no other answer
pub never : {A : Type 0} (r : Refusal) (a : A) → Err r ≡ Ok a → ⊥
never r a e = let z : ◌≡◌ {A = ℕ} 0 1 = cc in omega arith

pub record Accepted (s : PictureSettings) (len h w room gh gw n : ℕ) : Type 0 where
  pub asks : Accepts s len h w room
  pub tall : gh ≡ gh_of s h w
  pub wide : gw ≡ gw_of s h w
  pub count : n ≡ floats_of s h w

pub acceptance : (s : PictureSettings) (len h w room gh gw n : ℕ) → preprocessed s len h w room ≡ Ok (sized gh gw n) → Accepted s len h w room gh gw n
unfolding preprocessed
acceptance s len h w room gh gw n e =
    let x = Ok (sized gh gw n) in
    let a = passed (allowed s) _ _ x (never Setting _) e in
    let k = passed (channels_allowed (value_of s)) _ _ x (never Channel _) a.1 in
    let b = passed (sided h w) _ _ x (never Side _) k.1 in
    let c = passed (eqb len (h * w * 3)) _ _ x (never RgbLength _) b.1 in
    let d = passed (leb (align s) s.image_size) _ _ x (never ImageSize _) c.1 in
    let f = passed (leb (floats_of s h w) room) _ _ x (never Output _) d.1 in
    let g = f.1 in
    record {
      asks = record { settings = a.0; channels = k.0; sides = b.0; bytes = eqb-true _ _ c.0; image = leb-true _ _ d.0; fits = leb-true _ _ f.0 };
      tall = sym (ap grid_h g);
      wide = sym (ap grid_w g);
      count = sym (ap floats g);
    }

-- what was written is what the definition says
pub written : (s : PictureSettings) (rgb : List ℕ) (h w : ℕ) (old : List Float) → Accepts s (length rgb) h w (length old)
    → over (patches_of s rgb h w) old ≡ patches_left (preprocessed s (length rgb) h w (length old)) (patches_of s rgb h w) old
written s rgb h w old a = rw (accepted s (length rgb) h w (length old) a)
