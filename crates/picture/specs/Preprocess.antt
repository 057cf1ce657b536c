-- What preprocess answers and writes, for every input. Assumes nothing.
use Rattle.std.specs.Prelude.{◌≡◌, Result, Ok, Err, List, ℕ, ◌*◌, leb, eqb, length, Float}
use Rattle.buffers.specs.Region.{over}
use Rattle.picture_limits.specs.declared.PictureSettings.{PictureSettings}
use Rattle.picture_limits.specs.declared.Refusal.{Refusal}
use Rattle.picture_limits.specs.declared.Refusal.TheVariants.{Setting, Channel, Side, RgbLength, ImageSize, Output}
use Rattle.picture.specs.declared.Patches.{Patches}
use Rattle.picture_limits.specs.Refusal.{unless, reported, number_of}
use Rattle.picture_limits.specs.Settings.{allowed, sided, align}
use Rattle.picture_limits.specs.Sides.{th_of, tw_of, gh_of, gw_of}
use Rattle.picture_samples.specs.Samples.{channels_allowed, value_of}
use Rattle.picture_resize.specs.Resize.{resized_at}
use Rattle.picture_limits.specs.Places.{patch_floats, picture}
use Rattle.picture_patches.specs.Resized.{resized_patches}

abbrev pub floats_of : PictureSettings → ℕ → ℕ → ℕ
floats_of s h w = gh_of s h w * gw_of s h w * patch_floats s.patch_size

-- a grid of patches, and their floats
abbrev pub sized : ℕ → ℕ → ℕ → Patches
sized gh gw n = record { grid_h = gh; grid_w = gw; floats = n }

-- the answer: `len` is the length of the RGB bytes and `room` that of the output
unfoldable pub preprocessed : PictureSettings → ℕ → ℕ → ℕ → ℕ → Result Patches Refusal
preprocessed s len h w room =
    unless (allowed s) (Err Setting)
    (unless (channels_allowed (value_of s)) (Err Channel)
    (unless (sided h w) (Err Side)
    (unless (eqb len (h * w * 3)) (Err RgbLength)
    (unless (leb (align s) s.image_size) (Err ImageSize)
    (unless (leb (floats_of s h w) room) (Err Output)
    (Ok (sized (gh_of s h w) (gw_of s h w) (floats_of s h w))))))))

-- the resized picture, by row, column and channel
abbrev pub resized_pixel : PictureSettings → List ℕ → ℕ → ℕ → ℕ → ℕ → ℕ → ℕ
resized_pixel s rgb h w = resized_at rgb h w (th_of s h w) (tw_of s h w)

abbrev pub resized_bytes : PictureSettings → List ℕ → ℕ → ℕ → List ℕ
resized_bytes s rgb h w = picture (th_of s h w) (tw_of s h w) (resized_pixel s rgb h w)

-- its patches
abbrev pub patches_of : PictureSettings → List ℕ → ℕ → ℕ → List Float
patches_of s rgb h w = resized_patches (value_of s) rgb h w (th_of s h w) (tw_of s h w) s.patch_size

-- the output after the call, from what it was
abbrev pub patches_left : Result Patches Refusal → List Float → List Float → List Float
patches_left (Ok a) ys old = over ys old
patches_left (Err r) ys old = old

abbrev pub patches_out : PictureSettings → List ℕ → ℕ → ℕ → List Float → List Float
patches_out s rgb h w old = patches_left (preprocessed s (length rgb) h w (length old)) (patches_of s rgb h w) old

-- ---- the paper's number and sizes of an answer: 0 for every size of a refusal

abbrev pub number : Result Patches Refusal → ℕ
number a = number_of a

abbrev pub grid_h : Result Patches Refusal → ℕ
grid_h (Ok a) = a.grid_h
grid_h (Err r) = 0

abbrev pub grid_w : Result Patches Refusal → ℕ
grid_w (Ok a) = a.grid_w
grid_w (Err r) = 0

abbrev pub floats : Result Patches Refusal → ℕ
floats (Ok a) = a.floats
floats (Err r) = 0

-- and these for every call: the first number of 1, 19, 2, 3, 4, 5 that applies, else 0
unfoldable pub preprocess_number : PictureSettings → ℕ → ℕ → ℕ → ℕ → ℕ
preprocess_number s len h w room =
    unless (allowed s) 1
    (unless (channels_allowed (value_of s)) 19
    (unless (sided h w) 2
    (unless (eqb len (h * w * 3)) 3
    (unless (leb (align s) s.image_size) 4
    (unless (leb (floats_of s h w) room) 5
    0)))))

pub record Numbered (s : PictureSettings) (len h w room : ℕ) (a : Result Patches Refusal) : Type 0 where
  pub number_is : number a ≡ preprocess_number s len h w room
  pub grid-h-is : grid_h a ≡ reported (number a) (gh_of s h w)
  pub grid-w-is : grid_w a ≡ reported (number a) (gw_of s h w)
  pub floats-is : floats a ≡ reported (number a) (floats_of s h w)
