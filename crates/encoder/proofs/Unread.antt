-- Forward never reads the means and deviations of its settings: any other six numbers, a NaN too, leave answer, output, scratch
-- and the lengths that are asked for the same. Assumes nothing.
use mathlib.Core.Path.{◌≡◌, refl}
use mathlib.Core.List.{List}
use Prim.Native.Nat.{ℕ}
use lib.Ieee.{Float}
use Rattle.picture_limits.specs.Settings as P
use Rattle.picture_limits.specs.Shape.{shaped}
use Rattle.encoder_settings.specs.declared.EncoderSettings.{EncoderSettings}
use Rattle.encoder_settings.specs.Settings.{scaling_allowed, allowed, lengths, checked_of, checked_plain}
use Rattle.encoder_settings.specs.Lengths.{needed_of}
use Rattle.encoder_run.specs.Stages.{run_of}
use Rattle.encoder.specs.Forward.{encoded_of, out_of, scratch_of}
use Rattle.encoder.specs.Axes.{encoded_axes, out_axes, scratch_axes}
use Rattle.encoder.specs.Plain.{encoded_plain, out_plain, scratch_plain}

-- the same settings, but for their means and deviations
abbrev pub otherwise : List Float → List Float → EncoderSettings → EncoderSettings
otherwise means deviations s =
    record {
      picture =
          record {
            patch_size = s.picture.patch_size;
            spatial_merge_size = s.picture.spatial_merge_size;
            image_size = s.picture.image_size;
            resize_rule = s.picture.resize_rule;
            mean = means;
            deviation = deviations;
          };
      hidden_size = s.hidden_size;
      num_heads = s.num_heads;
      head_dim = s.head_dim;
      num_layers = s.num_layers;
      intermediate_size = s.intermediate_size;
      text_hidden_size = s.text_hidden_size;
      projector_bias = s.projector_bias;
      scaling = s.scaling;
    }

module _ (s : EncoderSettings) (means deviations : List Float) (gh gw : ℕ) where
  pub lengths-unread : needed_of (otherwise means deviations s) gh gw ≡ needed_of s gh gw
  unfolding needed_of allowed P.allowed scaling_allowed
  lengths-unread = refl

  module _ (w cos sin x : List Float) where
    pub answer-unread : (out scratch : ℕ) → encoded_of (otherwise means deviations s) gh gw w cos sin x out scratch ≡ encoded_of s gh gw w cos sin x out scratch
    unfolding encoded_of checked_of allowed P.allowed scaling_allowed shaped lengths run_of
    answer-unread out scratch = refl

    pub output-unread : (scratch : ℕ) (old : List Float) → out_of (otherwise means deviations s) gh gw w cos sin x scratch old ≡ out_of s gh gw w cos sin x scratch old
    unfolding out_of checked_of allowed P.allowed scaling_allowed shaped lengths run_of
    output-unread scratch old = refl

    pub scratch-unread : (out : ℕ) (old : List Float) → scratch_of (otherwise means deviations s) gh gw w cos sin x out old ≡ scratch_of s gh gw w cos sin x out old
    unfolding scratch_of checked_of allowed P.allowed scaling_allowed shaped lengths
    scratch-unread out old = refl

  module _ (w row_cos row_sin column_cos column_sin x : List Float) where
    pub axes-answer-unread : (out scratch : ℕ) → encoded_axes (otherwise means deviations s) gh gw w row_cos row_sin column_cos column_sin x out scratch ≡ encoded_axes s gh gw w row_cos row_sin column_cos column_sin x out scratch
    unfolding encoded_axes checked_of allowed P.allowed scaling_allowed shaped lengths run_of
    axes-answer-unread out scratch = refl

    pub axes-output-unread : (scratch : ℕ) (old : List Float) → out_axes (otherwise means deviations s) gh gw w row_cos row_sin column_cos column_sin x scratch old ≡ out_axes s gh gw w row_cos row_sin column_cos column_sin x scratch old
    unfolding out_axes checked_of allowed P.allowed scaling_allowed shaped lengths run_of
    axes-output-unread scratch old = refl

    pub axes-scratch-unread : (out : ℕ) (old : List Float) → scratch_axes (otherwise means deviations s) gh gw w row_cos row_sin column_cos column_sin x out old ≡ scratch_axes s gh gw w row_cos row_sin column_cos column_sin x out old
    unfolding scratch_axes checked_of allowed P.allowed scaling_allowed shaped lengths
    axes-scratch-unread out old = refl

  module _ (w cos sin x : List Float) where
    pub plain-answer-unread : (out scratch : ℕ) → encoded_plain (otherwise means deviations s) gh gw w cos sin x out scratch ≡ encoded_plain s gh gw w cos sin x out scratch
    unfolding encoded_plain checked_plain allowed P.allowed scaling_allowed shaped lengths run_of
    plain-answer-unread out scratch = refl

    pub plain-output-unread : (scratch : ℕ) (old : List Float) → out_plain (otherwise means deviations s) gh gw w cos sin x scratch old ≡ out_plain s gh gw w cos sin x scratch old
    unfolding out_plain checked_plain allowed P.allowed scaling_allowed shaped lengths run_of
    plain-output-unread scratch old = refl

    pub plain-scratch-unread : (out : ℕ) (old : List Float) → scratch_plain (otherwise means deviations s) gh gw w cos sin x out old ≡ scratch_plain s gh gw w cos sin x out old
    unfolding scratch_plain checked_plain allowed P.allowed scaling_allowed shaped lengths
    plain-scratch-unread out old = refl
