-- What allowed settings say of the sizes and their products, so that no product wraps. Assumes nothing.
use Rattle.std.specs.Prelude.{◌≡◌, ℕ, ◌+◌, ◌*◌, ◌/◌, ◌≤◌}
use Rattle.picture_limits.specs.Places.{patch_floats}
use Rattle.picture_limits.specs.Shape.{most}
use Rattle.encoder_settings.specs.declared.EncoderSettings.{EncoderSettings}
use Rattle.encoder_settings.specs.Weights.{floats, layer, projector, has_bias}
use Rattle.encoder_settings.specs.Settings.{merge_area}

-- a layer's floats, as the code works them out
abbrev pub layer_sum : ℕ → ℕ → ℕ
layer_sum H I = 2 * H + 4 * (H * H) + 2 * (I * H) + H * I

-- and the projector's, whose biases are b
abbrev pub projector_sum : ℕ → ℕ → ℕ → ℕ → ℕ
projector_sum H wide X b = H + H * wide + X * H + b * X + X * X + b * X

pub record Bounded (s : EncoderSettings) : Type 0 where
  pub patch-low : 1 ≤ s.picture.patch_size
  pub merge_low : 1 ≤ s.picture.spatial_merge_size
  pub merge-area : merge_area s.picture ≤ 16
  pub most-high : most s.picture ≤ 2048
  pub patch-area : s.picture.patch_size * s.picture.patch_size ≤ 1024
  pub hidden-high : s.hidden_size ≤ 2048
  pub inner-high : s.intermediate_size ≤ 8192
  pub text-high : s.text_hidden_size ≤ 8192
  pub bias : s.projector_bias ≤ 1
  pub biases : s.projector_bias * s.text_hidden_size ≤ 8192
  pub squares : s.hidden_size * s.hidden_size ≤ 4194304
  pub outer : s.hidden_size * s.intermediate_size ≤ 16777216
  pub inner : s.intermediate_size * s.hidden_size ≤ 16777216
  pub projection : s.hidden_size * patch_floats s.picture.patch_size ≤ 6291456
  pub layers : s.num_layers * floats (layer s.hidden_size s.intermediate_size) ≤ 4294967296
  pub layers-are : s.num_layers * layer_sum s.hidden_size s.intermediate_size ≡ s.num_layers * floats (layer s.hidden_size s.intermediate_size)
  pub merged : s.hidden_size * merge_area s.picture ≤ 32768
  pub merging : s.hidden_size * (s.hidden_size * merge_area s.picture) ≤ 67108864
  pub linear-1 : s.text_hidden_size * s.hidden_size ≤ 16777216
  pub linear-2 : s.text_hidden_size * s.text_hidden_size ≤ 67108864
  pub projector-is : projector_sum s.hidden_size (s.hidden_size * merge_area s.picture) s.text_hidden_size s.projector_bias ≡ floats (projector s.hidden_size (s.hidden_size * merge_area s.picture) s.text_hidden_size (has_bias s))
  pub positions : most s.picture * most s.picture ≤ 4194304
  pub axis : most s.picture * (s.head_dim / 4) ≤ 131072
  pub table : most s.picture * most s.picture * s.head_dim ≤ 1073741824

-- the same of t tokens of which o are left
pub record Counted (s : EncoderSettings) (t o : ℕ) : Type 0 where
  pub tokens : t ≤ 4194304
  pub hiddens : t * s.hidden_size ≤ 8589934592
  pub inners : t * s.intermediate_size ≤ 34359738368
  pub texts : o * s.text_hidden_size ≤ 34359738368
