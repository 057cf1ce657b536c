-- What stands behind a block's regions in the scratch, how the weights are cut, and where a bias stands.
-- Assumes nothing.
use Rattle.std.specs.Prelude.{Bool, true, false, List, ℕ, ◌+◌, ◌*◌, Float}
use Rattle.buffers.specs.Region.{region}
use Rattle.picture_limits.specs.Places.{patch_floats}
use Rattle.encoder_settings.specs.declared.EncoderSettings.{EncoderSettings}
use Rattle.encoder_settings.specs.Settings.{merge_area}
use Rattle.encoder_settings.specs.inner.Bounds.{layer_sum}
use Rattle.encoder_linear.specs.Linear.{Bias, none, carried}
use Rattle.encoder_blocks.specs.declared.Sizes.{Sizes}
use Rattle.encoder_blocks.specs.Block.{n_of, m_of}
use Rattle.encoder_run.specs.declared.Counts.{Counts}
use Rattle.encoder_run.specs.declared.Regions.{Regions}

-- linear_1's result, linear_2's, of e floats each, and the score row
abbrev pub regions_of : Sizes → ℕ → Regions
regions_of z e = record { linear = 7 * n_of z + 2 * m_of z; row = 7 * n_of z + 2 * m_of z + 2 * e }

-- the floats of a patch, of the embedding's weights, of the layers' and of a merged row
abbrev pub counts_of : EncoderSettings → Sizes → Counts
counts_of s z =
    record {
      patch = patch_floats s.picture.patch_size;
      embedding = z.hidden * patch_floats s.picture.patch_size + z.hidden;
      layers = s.num_layers * layer_sum z.hidden z.inter;
      merged = z.hidden * merge_area s.picture;
    }

-- a bias of n floats at at, where there is one
abbrev pub bias_at : Bool → List Float → ℕ → ℕ → Bias
bias_at true w at n = carried (region w at n)
bias_at false w at n = none
