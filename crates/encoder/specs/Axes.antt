-- Forward by tables of rows and of columns (2026-06): it is forward at the full tables that these stand for, and 10 compares each of
-- the four with P × head width / 4. The four are examined whole: a full table is finite exactly when its two are. Assumes nothing.
use Rattle.std.specs.Prelude.{◌≡◌, true, List, ℕ, ◌/◌, length, Float}
use Rattle.picture_limits.specs.Shape.{most}
use Rattle.encoder_settings.specs.declared.EncoderSettings.{EncoderSettings}
use Rattle.encoder_settings.specs.Settings.{Checked, axis_tables, checked_of}
use Rattle.encoder_rotation.specs.Axes.{expand, axis, precomputed}
use Rattle.encoder_steps.specs.Run.{Run}
use Rattle.encoder_run.specs.Stages.{forward_run}
use Rattle.encoder.specs.Forward.{encoded_of, out_of, scratch_of, number_of}
use Rattle.encoder_run.specs.Answer.{Encoded, encoded_by, out_by, scratch_by}

-- the full table of a table of rows and a table of columns
abbrev pub full_of : EncoderSettings → List Float → List Float → List Float
full_of s r c = expand (most s.picture) (s.head_dim / 4) r c

module _ (s : EncoderSettings) (gh gw : ℕ) (w row_cos row_sin column_cos column_sin x : List Float) where
  abbrev answer_of : ℕ → ℕ → Checked
  answer_of out scratch =
      checked_of s gh gw (length x) (length w) (axis_tables s (length row_cos) (length row_sin) (length column_cos) (length column_sin)) out scratch

  abbrev pub axes_run : Run
  axes_run = forward_run s gh gw w (full_of s row_cos column_cos) (full_of s row_sin column_sin) x

  unfoldable pub encoded_axes : ℕ → ℕ → Encoded
  encoded_axes out scratch = encoded_by (answer_of out scratch) axes_run

  unfoldable pub out_axes : ℕ → List Float → List Float
  out_axes scratch old = out_by (answer_of (length old) scratch) axes_run old

  unfoldable pub scratch_axes : ℕ → List Float → List Float
  scratch_axes out old = scratch_by (answer_of out (length old)) old

  -- the paper's number of the call
  abbrev pub axes_number : ℕ → ℕ → ℕ
  axes_number out scratch =
      number_of s gh gw (length x) (length w) (axis_tables s (length row_cos) (length row_sin) (length column_cos) (length column_sin)) out scratch axes_run

-- ---- a call by tables of rows and of columns, and one by full tables, agree: in answer, output and scratch, whatever is lent

pub record Agrees (s : EncoderSettings) (gh gw : ℕ) (w x row_cos row_sin column_cos column_sin cos sin : List Float) : Type 0 where
  pub answers : (out scratch : ℕ) → encoded_axes s gh gw w row_cos row_sin column_cos column_sin x out scratch ≡ encoded_of s gh gw w cos sin x out scratch
  pub outputs : (scratch : ℕ) (old : List Float) → out_axes s gh gw w row_cos row_sin column_cos column_sin x scratch old ≡ out_of s gh gw w cos sin x scratch old
  pub scratches : (out : ℕ) (old : List Float) → scratch_axes s gh gw w row_cos row_sin column_cos column_sin x out old ≡ scratch_of s gh gw w cos sin x out old

-- wherever the four lengths of 10 are right, the call by the full tables that the four stand for agrees
abbrev pub ExpandedAgrees : Type 0
ExpandedAgrees =
    (s : EncoderSettings) (gh gw : ℕ) (w x row_cos row_sin column_cos column_sin : List Float)
    → axis_tables s (length row_cos) (length row_sin) (length column_cos) (length column_sin) ≡ true
    → Agrees s gh gw w x row_cos row_sin column_cos column_sin (full_of s row_cos column_cos) (full_of s row_sin column_sin)

-- and so do full tables of the form that `precompute_2d_rope` makes, over any values, with the tables of their rows and columns
abbrev pub PrecomputedAgrees : Type 0
PrecomputedAgrees =
    (s : EncoderSettings) (gh gw : ℕ) (w x : List Float) (cos_h cos_w sin_h sin_w : ℕ → ℕ → Float)
    → (let P = most s.picture in
    let q = s.head_dim / 4 in
    Agrees s gh gw w x (axis P q cos_h) (axis P q sin_h) (axis P q cos_w) (axis P q sin_w) (precomputed P q cos_h cos_w) (precomputed P q sin_h sin_w))
