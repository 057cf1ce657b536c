-- What restore answers and writes, for every input. Assumes nothing.
use Rattle.std.specs.Prelude.{◌≡◌, ◌&&◌, List, ℕ, ◌*◌, length, eqb, leb, Float, Result, Ok, Err}
use Rattle.buffers.specs.Region.{over}
use Rattle.picture_limits.specs.declared.PictureSettings.{PictureSettings}
use Rattle.picture_limits.specs.declared.Refusal.TheVariants.{Setting, Channel, Output, Grid, PatchesLength, Sample}
use Rattle.picture_limits.specs.declared.Refusal.{Refusal}
use Rattle.picture_restore.specs.declared.Picture.{Picture}
use Rattle.picture_limits.specs.Refusal as R
use Rattle.picture_limits.specs.Refusal.{unless, reported}
use Rattle.picture_limits.specs.Settings.{allowed}
use Rattle.picture_limits.specs.Shape.{grid_allowed}
use Rattle.picture_samples.specs.Samples.{channels_allowed, value_of, pattern_of}
use Rattle.picture_limits.specs.Places.{patch_floats}
use Rattle.picture_view.specs.Known.{known, bytes_from}

-- ---- restore, by the table of the settings' means and deviations

-- the answer; `room` is the length of the output
unfoldable pub restored : PictureSettings → List Float → ℕ → ℕ → ℕ → Result Picture Refusal
restored s l gh gw room =
    unless (allowed s) (Err Setting)
    (unless (channels_allowed (value_of s)) (Err Channel)
    (unless (grid_allowed s gh && grid_allowed s gw) (Err Grid)
    (unless (eqb (length l) (gh * gw * patch_floats s.patch_size)) (Err PatchesLength)
    (unless (leb (gh * s.patch_size * (gw * s.patch_size) * 3) room) (Err Output)
    (unless (known (pattern_of s) s.patch_size l) (Err Sample)
    (Ok (record { height = gh * s.patch_size; width = gw * s.patch_size })))))))

abbrev pub bytes_of : PictureSettings → List Float → ℕ → ℕ → List ℕ
bytes_of s l gh gw = bytes_from (pattern_of s) s.patch_size l gh gw

-- the output after the call, from what it was
abbrev pub bytes_left : Result Picture Refusal → List ℕ → List ℕ → List ℕ
bytes_left (Ok p) ys old = over ys old
bytes_left (Err r) ys old = old

abbrev pub bytes_out : PictureSettings → List Float → ℕ → ℕ → List ℕ → List ℕ
bytes_out s l gh gw old = bytes_left (restored s l gh gw (length old)) (bytes_of s l gh gw) old

-- ---- the paper's number and sizes of an answer: 0 for every size of a refusal

abbrev pub number : Result Picture Refusal → ℕ
number (Ok p) = 0
number (Err r) = R.number r

abbrev pub height : Result Picture Refusal → ℕ
height (Ok p) = p.height
height (Err r) = 0

abbrev pub width : Result Picture Refusal → ℕ
width (Ok p) = p.width
width (Err r) = 0

-- and these for every call: the first number of 1, 19, 6, 7, 5, 8 that applies, else 0
unfoldable pub restore_number : PictureSettings → List Float → ℕ → ℕ → ℕ → ℕ
restore_number s l gh gw room =
    unless (allowed s) 1
    (unless (channels_allowed (value_of s)) 19
    (unless (grid_allowed s gh && grid_allowed s gw) 6
    (unless (eqb (length l) (gh * gw * patch_floats s.patch_size)) 7
    (unless (leb (gh * s.patch_size * (gw * s.patch_size) * 3) room) 5
    (unless (known (pattern_of s) s.patch_size l) 8
    0)))))

pub record Numbered (s : PictureSettings) (l : List Float) (gh gw room : ℕ) (a : Result Picture Refusal) : Type 0 where
  pub number_is : number a ≡ restore_number s l gh gw room
  pub height-is : height a ≡ reported (number a) (gh * s.patch_size)
  pub width_is : width a ≡ reported (number a) (gw * s.patch_size)
