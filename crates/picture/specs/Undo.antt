-- Patches can be undone: what restore gives back of what preprocess wrote, and which floats it refuses.
-- Three statements, the first also of what the calls leave; proofs/Undo.antt proves them. Assumes nothing.
use Rattle.std.specs.Prelude.{◌≡◌, Result, Ok, Err, true, ◌&&◌, List, ℕ, ◌*◌, ◌%◌, ◌≤◌, length, take, Float}
use Rattle.buffers.specs.Region.{over}
use Rattle.buffers.specs.Lent.{Bytes, Floats}
use Rattle.picture_limits.specs.declared.PictureSettings.{PictureSettings}
use Rattle.picture_limits.specs.declared.Refusal.{Refusal}
use Rattle.picture.specs.declared.Patches.{Patches}
use Rattle.picture_restore.specs.declared.Picture.{Picture}
use Rattle.picture_limits.specs.Settings.{allowed, align}
use Rattle.picture_limits.specs.Sides.{th_of, tw_of}
use Rattle.picture_limits.specs.Shape.{grid_allowed}
use Rattle.picture_samples.specs.Samples.{channels_allowed, value_of}
use Rattle.picture_limits.specs.Places.{patch_floats}
use Rattle.picture.specs.Preprocess.{sized, preprocessed, resized_bytes, patches_of, patches_out}
use Rattle.picture_restore.specs.Restore.{restored, bytes_of, bytes_out}

-- ---- 1. From the patches and the grid of an accepted picture the resized bytes come back

-- a picture's sides
abbrev pub pictured : ℕ → ℕ → Picture
pictured h w = record { height = h; width = w }

-- into any output that has room for them: restore accepts, reports the resized height and width, and keeps the tail
pub record Undone (s : PictureSettings) (rgb : List ℕ) (h w gh gw : ℕ) (old : List ℕ) : Type 0 where
  pub answer : restored s (patches_of s rgb h w) gh gw (length old) ≡ Ok (pictured (th_of s h w) (tw_of s h w))
  pub bytes : bytes_of s (patches_of s rgb h w) gh gw ≡ resized_bytes s rgb h w
  pub output : bytes_out s (patches_of s rgb h w) gh gw old ≡ over (resized_bytes s rgb h w) old

abbrev pub Undo : Type 0
Undo = (s : PictureSettings) (rgb : List ℕ) (h w gh gw n room : ℕ) (old : List ℕ)
    → preprocessed s (length rgb) h w room ≡ Ok (sized gh gw n)
    → th_of s h w * tw_of s h w * 3 ≤ length old
    → Undone s rgb h w gh gw old

-- The same of what the calls leave: the count that preprocess reports is the length of its patches, the front of its
-- output has them, and restore of that front gives the resized bytes
pub record Returned (s : PictureSettings) (rgb : List ℕ) (h w gh gw n : ℕ) (out : List Float) (old : List ℕ) : Type 0 where
  pub count : n ≡ length (patches_of s rgb h w)
  pub front : take n (patches_out s rgb h w out) ≡ patches_of s rgb h w
  pub answer : restored s (take n (patches_out s rgb h w out)) gh gw (length old) ≡ Ok (pictured (th_of s h w) (tw_of s h w))
  pub output : bytes_out s (take n (patches_out s rgb h w out)) gh gw old ≡ over (resized_bytes s rgb h w) old

abbrev pub UndoCalls : Type 0
UndoCalls = (s : PictureSettings) (rgb : List ℕ) (h w gh gw n : ℕ) (out : List Float) (old : List ℕ)
    → preprocessed s (length rgb) h w (length out) ≡ Ok (sized gh gw n)
    → th_of s h w * tw_of s h w * 3 ≤ length old
    → Returned s rgb h w gh gw n out old

-- ---- 2. Where nothing was resized these are the sweep's own bytes

-- both sides are multiples of patch × merge, and neither is above the image size
pub record Unresized (s : PictureSettings) (h w : ℕ) : Type 0 where
  pub tall : h % align s ≡ 0
  pub wide : w % align s ≡ 0
  pub tall-held : h ≤ s.image_size
  pub wide-held : w ≤ s.image_size

abbrev pub OwnBytes : Type 0
OwnBytes = (s : PictureSettings) (rgb : List ℕ) (h w gh gw n room : ℕ)
    → Bytes rgb
    → preprocessed s (length rgb) h w room ≡ Ok (sized gh gw n)
    → Unresized s h w
    → resized_bytes s rgb h w ≡ rgb

-- ---- 3. Floats are refused with 8 exactly when no picture gives them with that grid

-- restore's numbers before 8 do not apply
pub record Asked (s : PictureSettings) (l : List Float) (gh gw room : ℕ) : Type 0 where
  pub settings : allowed s ≡ true
  pub channels : channels_allowed (value_of s) ≡ true
  pub grid : grid_allowed s gh && grid_allowed s gw ≡ true
  pub samples : length l ≡ gh * gw * patch_floats s.patch_size
  pub fits : gh * s.patch_size * (gw * s.patch_size) * 3 ≤ room

-- a picture that preprocess accepts with this grid and these patches
pub record Source (s : PictureSettings) (l : List Float) (gh gw : ℕ) : Type 0 where
  pub rgb : List ℕ
  pub h : ℕ
  pub w : ℕ
  pub room : ℕ
  pub n : ℕ
  pub bytes : Bytes rgb
  pub accepted : preprocessed s (length rgb) h w room ≡ Ok (sized gh gw n)
  pub given : patches_of s rgb h w ≡ l

pub record Exactly (s : PictureSettings) (l : List Float) (gh gw room : ℕ) : Type 0 where
  pub none : restored s l gh gw room ≡ Err Refusal.Sample → Source s l gh gw → ⊥
  pub refused : (Source s l gh gw → ⊥) → restored s l gh gw room ≡ Err Refusal.Sample

abbrev pub Eight : Type 0
Eight = (s : PictureSettings) (l : List Float) (gh gw room : ℕ)
    → Floats l
    → Asked s l gh gw room
    → Exactly s l gh gw room
