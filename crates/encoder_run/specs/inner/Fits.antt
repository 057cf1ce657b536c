-- What the inner functions ask of the places and lengths that they are handed. Assumes nothing.
use Rattle.std.specs.Prelude.{◌≡◌, ℕ, ◌+◌, ◌*◌, ◌-◌, ◌/◌, ◌≤◌, ◌<◌}
use Rattle.buffers.specs.inner.Apart.{Apart}
use Rattle.encoder_blocks.specs.declared.Sizes.{Sizes}
use Rattle.encoder_blocks.specs.Block.{n_of, m_of}
use Rattle.encoder_blocks.specs.inner.Fits.{LayersFits}
use Rattle.encoder_settings.specs.declared.EncoderSettings.{EncoderSettings}
use Rattle.encoder_settings.specs.declared.Attention.{Attention}
use Rattle.encoder_settings.specs.declared.Tables.{Tables}
use Rattle.picture_limits.specs.Places.{patch_floats}
use Rattle.encoder_settings.specs.Weights.{floats, embedding, layer}
use Rattle.encoder_settings.specs.Settings.{merge_area, weight_floats}
use Rattle.encoder_settings.specs.inner.Bounds.{projector_sum}
use Rattle.encoder_run.specs.inner.Live.{regions_of, counts_of}
use Rattle.encoder_run.specs.Stages.{sizes_of}

-- place p of the merged rows
pub record SourceFits (p merge gh gw dim : ℕ) : Type 0 where
  pub some : 0 < merge
  pub square : 0 < merge * merge
  pub small : merge * merge ≤ 16
  pub wide : 0 < gw / merge
  pub row : 0 < dim * (merge * merge)
  pub row_in : dim * (merge * merge) ≤ 1048576
  pub gh-is : gh ≡ gh / merge * merge
  pub gw-is : gw ≡ gw / merge * merge
  pub tokens : gh * gw ≤ 4194304
  pub room : gh * gw * dim ≤ 1152921504606846976
  pub inside : p < gh / merge * (gw / merge) * (dim * (merge * merge))

-- every place of the merged rows of the tokens at x, to y
pub record MergeFits (lens x y total merge gh gw dim : ℕ) : Type 0 where
  pub each : (p : ℕ) → p < total → SourceFits p merge gh gw dim
  pub total-is : total ≡ gh / merge * (gw / merge) * (dim * (merge * merge))
  pub some : 0 < merge
  pub wide : 0 < gw / merge
  pub channels : 0 < dim
  pub x_in : x + gh * gw * dim ≤ lens
  pub y_in : y + total ≤ lens
  pub apart : Apart x (gh * gw * dim) y total

-- the projector on h at 0, its result at at + o * text; b is its projector_bias
pub record ProjFits (t dim o wide text b lens lenw merge gh gw at : ℕ) : Type 0 where
  pub small : dim ≤ 2048
  pub bias : b ≤ 1
  pub weights : projector_sum dim wide text b ≤ lenw
  pub same : gh * gw * dim ≡ t * dim
  pub count : gh / merge * (gw / merge) ≡ o
  pub wide_is : wide ≡ dim * (merge * merge)
  pub wide_in : o * wide ≤ t * dim
  pub fold_in : o * dim ≤ t * dim
  pub at-is : 4 * (t * dim) ≤ at
  pub room : at + 2 * (o * text) ≤ lens
  pub merges : MergeFits lens (t * dim) (2 * (t * dim)) (o * wide) merge gh gw dim

-- patches of f floats each, to h at 0; the place n is used too
pub record EmbedFits (z : Sizes) (lenx lens lenw f : ℕ) : Type 0 where
  pub small : z.hidden ≤ 2048
  pub xin : lenx ≡ z.tokens * f
  pub room : 2 * n_of z ≤ lens
  pub weights : floats (embedding z.hidden f) ≤ lenw

-- how the weights are cut, of a call of the sizes z: no product wraps
pub record CountsFit (s : EncoderSettings) (z : Sizes) : Type 0 where
  pub small : z.hidden ≤ 2048
  pub patch-area : s.picture.patch_size * s.picture.patch_size ≤ 1024
  pub projection : z.hidden * patch_floats s.picture.patch_size ≤ 6291456
  pub squares : z.hidden * z.hidden ≤ 4194304
  pub inner : z.inter * z.hidden ≤ 16777216
  pub outer : z.hidden * z.inter ≤ 16777216
  pub layers : (counts_of s z).layers ≤ 4294967296
  pub merge-area : merge_area s.picture ≤ 16
  pub merged : z.hidden * merge_area s.picture ≤ 32768

-- the places in the scratch, with e floats of token vectors
pub record RegionsFit (z : Sizes) (e : ℕ) : Type 0 where
  pub small : z.hidden ≤ 2048
  pub hiddens : n_of z ≤ 8589934592
  pub inners : m_of z ≤ 34359738368
  pub texts : e ≤ 34359738368

-- a whole run: t tokens of a grid gh by gw, of which o are left
pub record RunFits (f : Attention) (s : EncoderSettings) (gh gw t o lenx lenw : ℕ) (tables : Tables) (lens : ℕ) : Type 0 where
  pub counts : CountsFit s (sizes_of s t gw)
  pub regions : RegionsFit (sizes_of s t gw) (o * s.text_hidden_size)
  pub embedding-is : (counts_of s (sizes_of s t gw)).embedding ≡ floats (embedding s.hidden_size (patch_floats s.picture.patch_size))
  pub layers-is : (counts_of s (sizes_of s t gw)).layers ≡ s.num_layers * floats (layer s.hidden_size s.intermediate_size)
  pub weights-is : lenw ≡ weight_floats s
  pub embeds : EmbedFits (sizes_of s t gw) lenx lens (counts_of s (sizes_of s t gw)).embedding (counts_of s (sizes_of s t gw)).patch
  pub layers : LayersFits f (sizes_of s t gw) lens (counts_of s (sizes_of s t gw)).layers tables (regions_of (sizes_of s t gw) (o * s.text_hidden_size)).row s.num_layers
  pub projects : ProjFits t s.hidden_size o (counts_of s (sizes_of s t gw)).merged s.text_hidden_size s.projector_bias lens
      (lenw - ((counts_of s (sizes_of s t gw)).embedding + (counts_of s (sizes_of s t gw)).layers))
      s.picture.spatial_merge_size gh gw (regions_of (sizes_of s t gw) (o * s.text_hidden_size)).linear
