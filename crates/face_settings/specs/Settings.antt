-- Settings of the C face as the calls behind it take them, and back. Assumes nothing.
use Rattle.picture_limits.specs.declared.PictureSettings as P
use Rattle.encoder_settings.specs.declared.EncoderSettings as E
use Rattle.face_settings.specs.declared.PictureSettings as K
use Rattle.face_settings.specs.declared.EncoderSettings as KE

abbrev pub inner : K.PictureSettings → P.PictureSettings
inner s =
    record {
      patch_size = s.patch_size;
      spatial_merge_size = s.spatial_merge_size;
      image_size = s.image_size;
      resize_rule = s.resize_rule;
      mean = s.mean;
      deviation = s.deviation;
    }

abbrev pub inner_encoder : KE.EncoderSettings → E.EncoderSettings
inner_encoder s =
    record {
      picture = inner s.picture;
      hidden_size = s.hidden_size;
      num_heads = s.num_heads;
      head_dim = s.head_dim;
      num_layers = s.num_layers;
      intermediate_size = s.intermediate_size;
      text_hidden_size = s.text_hidden_size;
      projector_bias = s.projector_bias;
      scaling = s.scaling;
    }

-- settings as they are handed back
abbrev pub outer : P.PictureSettings → K.PictureSettings
outer s =
    record {
      patch_size = s.patch_size;
      spatial_merge_size = s.spatial_merge_size;
      image_size = s.image_size;
      resize_rule = s.resize_rule;
      mean = s.mean;
      deviation = s.deviation;
    }

abbrev pub outer_encoder : E.EncoderSettings → KE.EncoderSettings
outer_encoder s =
    record {
      picture = outer s.picture;
      hidden_size = s.hidden_size;
      num_heads = s.num_heads;
      head_dim = s.head_dim;
      num_layers = s.num_layers;
      intermediate_size = s.intermediate_size;
      text_hidden_size = s.text_hidden_size;
      projector_bias = s.projector_bias;
      scaling = s.scaling;
    }
