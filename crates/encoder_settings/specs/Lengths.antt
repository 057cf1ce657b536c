-- How many floats each buffer of a forward call has to have, by its settings and its grid: what 7, 9, 10, 11 and 5 compare
-- with. Assumes nothing.
use Rattle.std.specs.Prelude.{◌&&◌, ℕ, ◌*◌, ◌/◌, Result, Ok, Err}
use Rattle.picture_limits.specs.declared.Refusal.{Refusal}
use Rattle.picture_limits.specs.declared.Refusal.TheVariants.{Setting, Grid}
use Rattle.picture_limits.specs.Refusal as R
use Rattle.picture_limits.specs.Refusal.{unless}
use Rattle.picture_limits.specs.Places.{patch_floats}
use Rattle.picture_limits.specs.Shape.{grid_allowed}
use Rattle.encoder_settings.specs.declared.EncoderSettings.{EncoderSettings}
use Rattle.encoder_settings.specs.declared.lengths.Lengths.{Lengths}
use Rattle.encoder_settings.specs.Settings.{allowed, merge_area, weight_floats, table_floats, axis_floats, scratch_floats}

-- for t tokens, of which o are left: patches, weights, each full table, each table of rows or of columns, scratch and output
abbrev pub floats_for : EncoderSettings → ℕ → ℕ → Lengths
floats_for s t o =
    record {
      patches = t * patch_floats s.picture.patch_size;
      weights = weight_floats s;
      tables = table_floats s;
      axes = axis_floats s;
      scratch = scratch_floats s t o;
      out = o * s.text_hidden_size;
    }

-- 1, 6
unfoldable pub needed_of : EncoderSettings → ℕ → ℕ → Result Lengths Refusal
needed_of s gh gw =
    unless (allowed s) (Err Setting)
    (unless (grid_allowed s.picture gh && grid_allowed s.picture gw) (Err Grid)
    (Ok (floats_for s (gh * gw) (gh * gw / merge_area s.picture))))

-- ---- the paper's number, and the lengths: 0 of a refusal

abbrev pub number : Result Lengths Refusal → ℕ
number a = R.number_of a

abbrev pub patches : Result Lengths Refusal → ℕ
patches (Ok l) = l.patches
patches (Err r) = 0

abbrev pub weights : Result Lengths Refusal → ℕ
weights (Ok l) = l.weights
weights (Err r) = 0

abbrev pub tables : Result Lengths Refusal → ℕ
tables (Ok l) = l.tables
tables (Err r) = 0

abbrev pub axes : Result Lengths Refusal → ℕ
axes (Ok l) = l.axes
axes (Err r) = 0

abbrev pub scratch : Result Lengths Refusal → ℕ
scratch (Ok l) = l.scratch
scratch (Err r) = 0

abbrev pub out : Result Lengths Refusal → ℕ
out (Ok l) = l.out
out (Err r) = 0
