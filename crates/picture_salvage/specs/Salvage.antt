-- What salvage answers and writes, for every input: like restore, of patterns in the place of floats, where a sample that has
-- the bits of no byte becomes byte 0 and is listed. Assumes nothing.
use Rattle.std.specs.Prelude.{Bool, not, ◌&&◌, cond, List, [], ◌∷◌, ℕ, ◌*◌, ◌/◌, ◌%◌, eqb, leb, ltb, length, get_or, Result, Ok, Err}
use Rattle.buffers.specs.Rows.{rows, count}
use Rattle.buffers.specs.Region.{over}
use Rattle.picture_limits.specs.declared.PictureSettings.{PictureSettings}
use Rattle.picture_limits.specs.declared.Refusal as F
use Rattle.picture_salvage.specs.declared.Salvaged.{Salvaged}
use Rattle.picture_limits.specs.Refusal as R
use Rattle.picture_limits.specs.Refusal.{unless}
use Rattle.picture_limits.specs.Settings.{allowed}
use Rattle.picture_limits.specs.Shape.{grid_allowed}
use Rattle.picture_limits.specs.Places.{patch_floats}
use Rattle.picture_samples.specs.Samples.{channels_allowed, value_of, pattern_of}
use Rattle.picture_spot.specs.Bytes.{known_at, bytes_by}

-- the found bits of sample i
abbrev pub bits_of : List ℕ → ℕ → ℕ
bits_of l i = get_or l i 0

-- by a table k: sample i would cause 8
abbrev pub bad : (ℕ → ℕ → ℕ) → ℕ → List ℕ → ℕ → Bool
bad k p l i = not (known_at k p (bits_of l) i)

-- how many would
abbrev pub bad_samples : (ℕ → ℕ → ℕ) → ℕ → List ℕ → ℕ
bad_samples k p l = count (length l) (bad k p l)

-- what is listed of a bad sample: the patch, the place in the patch, the found bits
abbrev pub entry_of : ℕ → List ℕ → ℕ → List ℕ
entry_of p l i = i / patch_floats p ∷ i % patch_floats p ∷ bits_of l i ∷ []

-- the bad samples, in buffer order
abbrev pub listed : (ℕ → ℕ → ℕ) → ℕ → List ℕ → List ℕ
listed k p l = rows (length l) (λ i. cond (bad k p l i) (entry_of p l i) [])

-- the bytes of the samples, by row, column and channel; 0 where there is none
abbrev pub saved : ℕ → ℕ
saved b = cond (ltb b 256) b 0

abbrev pub saved_from : (ℕ → ℕ → ℕ) → ℕ → List ℕ → ℕ → ℕ → List ℕ
saved_from k p l gh gw = bytes_by saved k p gh gw (bits_of l)

-- ---- salvage, by the table of the settings' means and deviations

-- the answer; `room` is the length of the output, and `space` that of the list, which holds a third as many entries
unfoldable pub salvaged : PictureSettings → List ℕ → ℕ → ℕ → ℕ → ℕ → Result Salvaged F.Refusal
salvaged s l gh gw room space =
    unless (allowed s) (Err F.Refusal.Setting)
    (unless (channels_allowed (value_of s)) (Err F.Refusal.Channel)
    (unless (grid_allowed s gh && grid_allowed s gw) (Err F.Refusal.Grid)
    (unless (eqb (length l) (gh * gw * patch_floats s.patch_size)) (Err F.Refusal.PatchesLength)
    (unless (leb (gh * s.patch_size * (gw * s.patch_size) * 3) room) (Err F.Refusal.Output)
    (unless (leb (bad_samples (pattern_of s) s.patch_size l) (space / 3)) (Err F.Refusal.List)
    (Ok (record { height = gh * s.patch_size; width = gw * s.patch_size; bad = bad_samples (pattern_of s) s.patch_size l })))))))

-- output and list after the call, from what they were
abbrev pub left_of : Result Salvaged F.Refusal → List ℕ → List ℕ → List ℕ
left_of (Ok p) ys old = over ys old
left_of (Err r) ys old = old

abbrev pub saved_out : PictureSettings → List ℕ → ℕ → ℕ → ℕ → List ℕ → List ℕ
saved_out s l gh gw space old = left_of (salvaged s l gh gw (length old) space) (saved_from (pattern_of s) s.patch_size l gh gw) old

abbrev pub list_out : PictureSettings → List ℕ → ℕ → ℕ → ℕ → List ℕ → List ℕ
list_out s l gh gw room old = left_of (salvaged s l gh gw room (length old)) (listed (pattern_of s) s.patch_size l) old

-- ---- the paper's number and sizes of an answer: 0 for every size of a refusal

abbrev pub number : Result Salvaged F.Refusal → ℕ
number (Ok p) = 0
number (Err r) = R.number r

abbrev pub height : Result Salvaged F.Refusal → ℕ
height (Ok p) = p.height
height (Err r) = 0

abbrev pub width : Result Salvaged F.Refusal → ℕ
width (Ok p) = p.width
width (Err r) = 0

abbrev pub bad_of : Result Salvaged F.Refusal → ℕ
bad_of (Ok p) = p.bad
bad_of (Err r) = 0
