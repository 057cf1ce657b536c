-- Allowed settings, how long each buffer has to be, and the answer of the refusals 1, 6, 7, 9, 10, 5, 11. Assumes nothing.
use Rattle.std.specs.Prelude.{Bool, true, false, ◌&&◌, ℕ, ◌+◌, ◌*◌, ◌-◌, ◌/◌, ◌%◌, leb, eqb, length, Result, Ok, Err}
use Rattle.std.specs.Float.Ieee.{lt}
use Rattle.std.specs.Float.{inf}
use Rattle.number_floats.specs.Constants.{zero32}
use Rattle.picture_limits.specs.declared.PictureSettings.{PictureSettings}
use Rattle.picture_limits.specs.declared.Refusal.{Refusal}
use Rattle.picture_limits.specs.declared.Refusal.TheVariants.{Setting, Output, WeightsLength, TableLength, Scratch, Tokens}
use Rattle.picture_limits.specs.Refusal as R
use Rattle.picture_limits.specs.Refusal.{unless}
use Rattle.picture_limits.specs.Settings as P
use Rattle.picture_limits.specs.Settings.{within}
use Rattle.picture_limits.specs.Shape.{most, shaped}
use Rattle.encoder_settings.specs.declared.EncoderSettings.{EncoderSettings}
use Rattle.encoder_settings.specs.declared.Tables.{Tables}
use Rattle.encoder_settings.specs.declared.Tables.TheVariants.{Full, Axes}
use Rattle.encoder_settings.specs.declared.TableLengths.{TableLengths}
use Rattle.encoder_settings.specs.declared.TableLengths.TheVariants as L
use Rattle.encoder_settings.specs.declared.Attention.{Attention}
use Rattle.encoder_settings.specs.declared.Attention.TheVariants.{RowWise, Plain}
use Rattle.encoder_settings.specs.declared.settings.Accepted.{Accepted}
use Rattle.encoder_settings.specs.Weights.{floats, weights}

abbrev pub ranged : EncoderSettings → Bool
ranged s =
    within 4 2048 s.hidden_size && (within 1 64 s.num_heads && (within 4 256 s.head_dim && (leb s.num_layers 48
    && (within 1 8192 s.intermediate_size && (within 1 8192 s.text_hidden_size && leb s.projector_bias 1)))))

-- finite and above zero
unfoldable pub scaling_allowed : EncoderSettings → Bool
scaling_allowed s = lt zero32 s.scaling && lt s.scaling (inf false)

unfoldable pub allowed : EncoderSettings → Bool
allowed s =
    P.allowed s.picture && (ranged s && (eqb (s.head_dim % 4) 0 && (eqb (s.num_heads * s.head_dim) s.hidden_size && scaling_allowed s)))

abbrev pub merge_area : PictureSettings → ℕ
merge_area s = s.spatial_merge_size * s.spatial_merge_size

-- 9: all weights
abbrev pub weight_floats : EncoderSettings → ℕ
weight_floats s = floats (weights s)

-- either full rotary table, and each of those of rows and of columns (2026-06)
abbrev pub table_floats : EncoderSettings → ℕ
table_floats s = most s.picture * most s.picture * s.head_dim

abbrev pub axis_floats : EncoderSettings → ℕ
axis_floats s = most s.picture * (s.head_dim / 4)

-- 10: whether the tables' lengths are right, of full ones and of those of rows and of columns
abbrev pub full_tables : EncoderSettings → ℕ → ℕ → Bool
full_tables s cos sin = eqb cos (table_floats s) && eqb sin (table_floats s)

abbrev pub axis_tables : EncoderSettings → ℕ → ℕ → ℕ → ℕ → Bool
axis_tables s row_cos row_sin column_cos column_sin =
    (eqb row_cos (axis_floats s) && eqb row_sin (axis_floats s)) && (eqb column_cos (axis_floats s) && eqb column_sin (axis_floats s))

-- by the lengths of a call's tables
abbrev pub lengths_fit : EncoderSettings → TableLengths → Bool
lengths_fit s (L.Full cos sin) = full_tables s cos sin
lengths_fit s (L.Axes row_cos row_sin column_cos column_sin) = axis_tables s row_cos row_sin column_cos column_sin

abbrev pub lengths_of : Tables → TableLengths
lengths_of (Full cos sin) = L.Full (length cos.now) (length sin.now)
lengths_of (Axes row_cos row_sin column_cos column_sin) =
    L.Axes (length row_cos.now) (length row_sin.now) (length column_cos.now) (length column_sin.now)

-- and by the tables
abbrev pub tables_fit : EncoderSettings → Tables → Bool
tables_fit s tables = lengths_fit s (lengths_of tables)

abbrev pub scratch_floats : EncoderSettings → ℕ → ℕ → ℕ
scratch_floats s t o =
    7 * (t * s.hidden_size) + 2 * (t * s.intermediate_size) + t + 2 * (o * s.text_hidden_size)

-- with plain attention (2026-11) t² − t floats more
abbrev pub plain_floats : EncoderSettings → ℕ → ℕ → ℕ
plain_floats s t o = scratch_floats s t o + (t * t - t)

-- by the attention of a call
abbrev pub scratch_by : Attention → EncoderSettings → ℕ → ℕ → ℕ
scratch_by RowWise s t o = scratch_floats s t o
scratch_by Plain s t o = plain_floats s t o

abbrev pub few_tokens : Attention → ℕ → Bool
few_tokens RowWise t = true
few_tokens Plain t = leb t 64

-- what settings and lengths say: t tokens, of which o are left, or a refusal
abbrev pub Checked : Type 0
Checked = Result Accepted Refusal

abbrev pub accepted : ℕ → ℕ → Checked
accepted t o = Ok (record { tokens = t; count = o })

-- the paper's number of what was checked, and the counts of tokens: 0 of a refusal
abbrev pub number : Checked → ℕ
number a = R.number_of a

abbrev pub tokens : Checked → ℕ
tokens (Ok a) = a.tokens
tokens (Err r) = 0

abbrev pub tokens_left : Checked → ℕ
tokens_left (Ok a) = a.count
tokens_left (Err r) = 0

-- 9, 10, 5, 11, for t tokens of which o are left; tables says whether their lengths are right, and needed how much scratch it takes
unfoldable pub lengths : EncoderSettings → ℕ → ℕ → ℕ → Bool → ℕ → ℕ → ℕ → Checked
lengths s t o weights tables out needed scratch =
    unless (eqb weights (weight_floats s)) (Err WeightsLength)
    (unless tables (Err TableLength)
    (unless (leb (o * s.text_hidden_size) out) (Err Output)
    (unless (leb needed scratch) (Err Scratch)
    (accepted t o))))

-- the answer for a shape's tokens, and the shape's own refusal
abbrev pub onward : Result ℕ Refusal → (ℕ → Checked) → Checked
onward (Ok t) f = f t
onward (Err r) f = Err r

unfoldable pub checked_of : EncoderSettings → ℕ → ℕ → ℕ → ℕ → Bool → ℕ → ℕ → Checked
checked_of s gh gw patches weights tables out scratch =
    unless (allowed s) (Err Setting)
    (onward (shaped s.picture gh gw patches) (λ t. let o = t / merge_area s.picture in lengths s t o weights tables out (scratch_floats s t o) scratch))

-- and with plain attention: 22 above 64 tokens, directly after 7
unfoldable pub checked_plain : EncoderSettings → ℕ → ℕ → ℕ → ℕ → Bool → ℕ → ℕ → Checked
checked_plain s gh gw patches weights tables out scratch =
    unless (allowed s) (Err Setting)
    (onward (shaped s.picture gh gw patches) (λ t. let o = t / merge_area s.picture in
    unless (leb t 64) (Err Tokens) (lengths s t o weights tables out (plain_floats s t o) scratch)))

-- either, by the attention
unfoldable pub checked_by : Attention → EncoderSettings → ℕ → ℕ → ℕ → ℕ → Bool → ℕ → ℕ → Checked
checked_by f s gh gw patches weights tables out scratch =
    unless (allowed s) (Err Setting)
    (onward (shaped s.picture gh gw patches) (λ t. let o = t / merge_area s.picture in
    unless (few_tokens f t) (Err Tokens) (lengths s t o weights tables out (scratch_by f s t o) scratch)))
