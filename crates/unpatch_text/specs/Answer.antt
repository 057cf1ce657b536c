-- The output text as a function of the input text. Assumes nothing.
use Rattle.std.specs.Prelude.{cond, List, ◌++◌, ℕ, ◌*◌, ◌/◌, leb, length}
use Rattle.std.specs.Prelude.{Option, None, Some, Result, Ok, Err}
use Rattle.buffers.specs.Region.{over}
use Rattle.picture_limits.specs.declared.PictureSettings.{PictureSettings}
use Rattle.picture.specs.declared.Patches.{Patches}
use Rattle.picture_restore.specs.declared.Picture.{Picture}
use Rattle.picture_limits.specs.declared.Refusal.{Refusal}
use Rattle.picture_limits.specs.Refusal.{number}
use Rattle.picture.specs.Preprocess.{floats_of, preprocessed, patches_of}
use Rattle.picture_restore.specs.Restore.{restored, bytes_of}
use Rattle.picture_samples.specs.Samples.{own_means, own_deviations}
use Rattle.unpatch_form.specs.Form.{Request, form}
use Rattle.unpatch_text.specs.Print.{refused_line, outside_line, grid_line, row_lines}

abbrev pub settings : Request → PictureSettings
settings q = record { patch_size = q.patch; spatial_merge_size = q.merge; image_size = q.image; resize_rule = 1; mean = own_means; deviation = own_deviations }

-- the restored bytes of a grid's patches, by what restore answers
abbrev pub restored_text : PictureSettings → ℕ → ℕ → List ℕ → Result Picture Refusal → List ℕ
restored_text s gh gw bs (Ok b) = grid_line gh gw (gh * gw / (s.spatial_merge_size * s.spatial_merge_size)) ++ row_lines b.height (b.width * 3) bs
restored_text s gh gw bs (Err r) = refused_line (number r)

-- the text of a picture, by what preprocess answers; restore is given as much room as the bytes take
abbrev pub preprocessed_text : PictureSettings → List ℕ → ℕ → ℕ → Result Patches Refusal → List ℕ
preprocessed_text s rgb h w (Ok p) =
    restored_text s p.grid_h p.grid_w (bytes_of s (patches_of s rgb h w) p.grid_h p.grid_w)
    (restored s (patches_of s rgb h w) p.grid_h p.grid_w (p.grid_h * s.patch_size * (p.grid_w * s.patch_size) * 3))
preprocessed_text s rgb h w (Err r) = refused_line (number r)

-- preprocess is given as much room as the patches take
unfoldable pub ran : PictureSettings → List ℕ → ℕ → ℕ → List ℕ
ran s rgb h w = preprocessed_text s rgb h w (preprocessed s (length rgb) h w (floats_of s h w))

abbrev pub answered : Option Request → List ℕ
answered None = outside_line
answered (Some q) = ran (settings q) q.rgb q.height q.width

unfoldable pub answer : List ℕ → List ℕ
answer t = answered (form t)

-- ---- what the call leaves: an output that is shorter than the room is left as it was

-- the longest text: the grid's line and 64 rows of 64 pixels
abbrev pub room : ℕ
room = 25094

abbrev pub length_left : List ℕ → List ℕ → ℕ
length_left text old = cond (leb room (length old)) (length text) 0

abbrev pub text_left : List ℕ → List ℕ → List ℕ
text_left text old = cond (leb room (length old)) (over text old) old
