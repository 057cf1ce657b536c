-- Rooms that are enough, and what preprocess and restore answer with them where no side is above 64. Assumes nothing.
use mathlib.Core.Path.{◌≡◌, refl, sym, ap}
use mathlib.Core.Bool.{◌&&◌}
use mathlib.Core.List.{List}
use Prim.Native.Nat.{ℕ, ◌*◌, ◌≤◌, max}
use native.Mathlib.Nat.{le_refl, div-mul-le_self}
use native.Mathlib.Omega.{arith}
use borrow.Author.Tests.{le-leb}
use lib.Dec.{leb, eqb}
use lib.ListN.{length, take, replicate, length-replicate}
use lib.Seq.{take_at}
use lib.Ieee.{Float}
use Rattle.picture_limits.specs.declared.PictureSettings.{PictureSettings}
use Rattle.picture_limits.specs.declared.Refusal.{Refusal}
use Rattle.picture_limits.specs.declared.Refusal.TheVariants.{Setting, Channel, Output, Grid, PatchesLength, Sample}
use Rattle.picture.specs.declared.Patches.{Patches}
use Rattle.std.specs.Prelude.{Result, Ok, Err}
use Rattle.picture_restore.specs.declared.Picture.{Picture}
use Rattle.picture.specs.Undo.{pictured}
use Rattle.picture_limits.specs.Settings.{align, allowed}
use Rattle.picture_limits.specs.Sides.{kept, resized, grid_of, gh_of, gw_of}
use Rattle.picture_limits.specs.Places.{patch_floats}
use Rattle.picture_limits.specs.Shape.{grid_allowed}
use Rattle.picture.specs.Preprocess.{floats_of, preprocessed, patches_of}
use Rattle.picture_view.specs.Known.{known}
use Rattle.picture_restore.specs.Restore.{height, width, restored, bytes_of, bytes_left}
use Rattle.picture_samples.specs.Samples.{channels_allowed, value_of, pattern_of}
use Rattle.picture_limits.proofs.Places.{times, length-picture}
use Rattle.picture_limits.proofs.Sides.{side-le}
use Rattle.picture_limits.proofs.Refusals.{passed}
use Rattle.picture_limits.proofs.Shapes.{Grids, grids-say}
use Rattle.picture.proofs.Accepts.{never, acceptance}
use Rattle.unpatch_text.specs.Answer.{restored_text, preprocessed_text, ran}
use Rattle.unpatch_text.proofs.Short.{refused-short, shown-short}

-- any room that is enough
pub preprocess-room : (s : PictureSettings) (len h w room : ℕ) → floats_of s h w ≤ room → preprocessed s len h w room ≡ preprocessed s len h w (floats_of s h w)
unfolding preprocessed
preprocess-room s len h w room e = rw (le-leb (floats_of s h w) room e, le-leb (floats_of s h w) (floats_of s h w) (le_refl (floats_of s h w))) refl

-- a grid spans no more than the image size
pub grid-span : (s : PictureSettings) (l x : ℕ) → s.image_size ≤ 64 → grid_of s l x * s.patch_size ≤ 64
grid-span s l x h = omega (arith, div-mul-le_self (resized s l x) s.patch_size, side-le (align s) s.image_size (kept s.resize_rule s.image_size l x))

pub floats-le : (s : PictureSettings) (h w : ℕ) → s.image_size ≤ 64 → floats_of s h w ≤ 12288
floats-le s h w e =
    let p = s.patch_size in
    omega (arith, times (gh_of s h w * p) (gw_of s h w * p) 64 64 (grid-span s (max h w) h e) (grid-span s (max h w) w e))

-- as much as the local arrays have
pub bytes_fit : (p gh gw : ℕ) → gh * p ≤ 64 → gw * p ≤ 64 → gh * p * (gw * p) * 3 ≤ length (replicate {A = ℕ} 12288 0)
bytes_fit p gh gw a b = rw (length-replicate {A = ℕ} 12288 0) (omega (arith, times (gh * p) (gw * p) 64 64 a b))

module _ (s : PictureSettings) (l : List Float) (gh gw : ℕ) where
  abbrev pub need : ℕ
  need = gh * s.patch_size * (gw * s.patch_size) * 3

  pub restore-room : (room : ℕ) → need ≤ room → restored s l gh gw room ≡ restored s l gh gw need
  unfolding restored
  restore-room room e = rw (le-leb need room e, le-leb need need (le_refl need)) refl

  pub length-bytes : length (bytes_of s l gh gw) ≡ gh * s.patch_size * (gw * s.patch_size * 3)
  length-bytes = length-picture (gh * s.patch_size) (gw * s.patch_size) _

  -- what a restored picture says
  pub record Back (h w : ℕ) : Type 0 where
    pub tall : h ≡ gh * s.patch_size
    pub wide : w ≡ gw * s.patch_size
    pub grids : Grids s gh gw

  pub back-says : (room h w : ℕ) → restored s l gh gw room ≡ Ok (pictured h w) → Back h w
  unfolding restored
  back-says room h w e =
      let x = Ok (pictured h w) in
      let a = passed (allowed s) _ _ x (never Setting _) e in
      let k = passed (channels_allowed (value_of s)) _ _ x (never Channel _) a.1 in
      let b = passed (grid_allowed s gh && grid_allowed s gw) _ _ x (never Grid _) k.1 in
      let c = passed (eqb (length l) (gh * gw * patch_floats s.patch_size)) _ _ x (never PatchesLength _) b.1 in
      let d = passed (leb need room) _ _ x (never Output _) c.1 in
      let f = passed (known (pattern_of s) s.patch_size l) _ _ x (never Sample _) d.1 in
      let g = f.1 in
      record { tall = sym (ap height g); wide = sym (ap width g); grids = grids-say s gh gw a.0 b.0 }

  -- the restored bytes, at the front of what was left
  pub bytes_back : (room h w : ℕ) (old : List ℕ) → restored s l gh gw room ≡ Ok (pictured h w) → take (h * (w * 3)) (bytes_left (restored s l gh gw room) (bytes_of s l gh gw) old) ≡ bytes_of s l gh gw
  bytes_back room h w old e =
      let k = back-says room h w e in
      rw (e, k.tall, k.wide) (take_at (bytes_of s l gh gw) _ _ length-bytes)

  -- the sides of the grid and of the picture, where the picture's are at most 64
  pub record Small (h w : ℕ) : Type 0 where
    pub grid-tall : gh ≤ 64
    pub grid-wide : gw ≤ 64
    pub tall : h ≤ 64
    pub wide : w * 3 ≤ 192

  pub back-small : gh * s.patch_size ≤ 64 → gw * s.patch_size ≤ 64 → (h w : ℕ) → Back h w → Small h w
  back-small a b h w k =
      let p = s.patch_size in
      let o = k.grids.settings.patch-low in
      record {
        grid-tall = omega (arith, times gh 1 gh p (le_refl gh) o);
        grid-wide = omega (arith, times gw 1 gw p (le_refl gw) o);
        tall = omega (arith, k.tall);
        wide = omega (arith, k.wide);
      }

  pub restored-short : gh * s.patch_size ≤ 64 → gw * s.patch_size ≤ 64 → (bs : List ℕ) (room : ℕ) → length (restored_text s gh gw bs (restored s l gh gw room)) ≤ 25094
  restored-short a b bs room = go (restored s l gh gw room) refl
    where
      go : (o : Result Picture Refusal) → restored s l gh gw room ≡ o → length (restored_text s gh gw bs o) ≤ 25094
      go (Err r) e = refused-short r
      go (Ok o) e =
          let k = back-small a b o.height o.width (back-says room o.height o.width e) in
          shown-short gh gw s.spatial_merge_size o.height (o.width * 3) bs k.grid-tall k.grid-wide k.tall k.wide

pub ran-short : (s : PictureSettings) (rgb : List ℕ) (h w : ℕ) → s.image_size ≤ 64 → length (ran s rgb h w) ≤ 25094
unfolding ran
ran-short s rgb h w i = go (preprocessed s (length rgb) h w (floats_of s h w)) refl
  where
    go : (o : Result Patches Refusal) → preprocessed s (length rgb) h w (floats_of s h w) ≡ o → length (preprocessed_text s rgb h w o) ≤ 25094
    go (Err r) e = refused-short r
    go (Ok o) e =
        let t = acceptance s (length rgb) h w (floats_of s h w) o.grid_h o.grid_w o.floats e in
        restored-short s (patches_of s rgb h w) o.grid_h o.grid_w (rw t.tall (grid-span s (max h w) h i)) (rw t.wide (grid-span s (max h w) w i)) (bytes_of s (patches_of s rgb h w) o.grid_h o.grid_w) (o.grid_h * s.patch_size * (o.grid_w * s.patch_size) * 3)
