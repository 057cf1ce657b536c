-- Forward, stage by stage: from the patches to the token vectors, or stopped where a stage holds a value that is not
-- finite. Assumes nothing.
use Rattle.std.specs.Prelude.{List, [], ◌∷◌, Bool, true, false, ℕ, ◌+◌, ◌*◌, ◌/◌, Float, get_or}
use Prim.Native.String.{String}
use Rattle.std.specs.Float.{nan}
use Rattle.encoder_settings.specs.Weights.{part, embedding, Table, projector, has_bias, weights}
use Rattle.encoder_blocks.specs.declared.Sizes.{Sizes}
use Rattle.encoder_blocks.specs.Block.{n_of, layers_run}
use Rattle.encoder_linear.specs.Linear.{linear_of, Bias, none, carried, linear_by}
use Rattle.encoder_elements.specs.Element.{rounded, gelued}
use Rattle.encoder_kernels.specs.Kernels.{norm_of}
use Rattle.encoder_steps.specs.Run.{Run, examined, then_run}
use Rattle.buffers.specs.Rows.{tab, rows}
use Rattle.picture_limits.specs.Places.{patch_floats}
use Rattle.picture_limits.specs.Shape.{most}
use Rattle.encoder_settings.specs.declared.EncoderSettings.{EncoderSettings}
use Rattle.encoder_settings.specs.Settings.{merge_area}

-- ---- the embedding: patch projection and ln_pre, each rounded to bf16; f floats a patch. w is its part of the weights

unfoldable pub patch_conv : Sizes → ℕ → List Float → List Float → List Float
patch_conv z f w x = linear_of z.tokens f z.hidden (part (embedding z.hidden f) "patch_conv" w) x

unfoldable pub ln_pre : Sizes → ℕ → List Float → List Float → List Float
ln_pre z f w h = norm_of z.tokens z.hidden (part (embedding z.hidden f) "ln_pre" w) h

unfoldable pub embed_run : Sizes → ℕ → List Float → List Float → Run
embed_run z f w x =
    let a = patch_conv z f w x in
    let b = rounded (n_of z) a in
    let c = ln_pre z f w b in
    let d = rounded (n_of z) c in
    examined (a ∷ b ∷ c ∷ d ∷ []) d

-- ---- the spatial merge: output token (bh, bw) takes, at c * merge² + mh * merge + mw, channel c of token
-- (bh * merge + mh, bw * merge + mw)

-- channel c of the token at a row and a column of a grid gw wide
abbrev pub place_of : ℕ → ℕ → ℕ → ℕ → ℕ → ℕ
place_of gw dim row col c = (row * gw + col) * dim + c

-- output token (bh, bw)
abbrev pub merged_token : ℕ → ℕ → ℕ → List Float → ℕ → ℕ → List Float
merged_token merge gw dim x bh bw =
    rows dim (λ c. rows merge (λ mh. tab merge (λ mw. get_or x (place_of gw dim (bh * merge + mh) (bw * merge + mw) c) nan)))

unfoldable pub merge_of : ℕ → ℕ → ℕ → ℕ → List Float → List Float
merge_of merge gh gw dim x = rows (gh / merge) (λ bh. rows (gw / merge) (λ bw. merged_token merge gw dim x bh bw))

-- ---- the projector: norm, spatial merge, merging layer, linear_1, gelu, linear_2, the two last with a bias or without. w is its
-- part of the weights

-- the bias of that name, where the table has one
abbrev pub bias_of : Bool → Table → String → List Float → Bias
bias_of true T name w = carried (part T name w)
bias_of false T name w = none

-- t tokens of dim; o output tokens, whose merged rows have wide floats; text; whether there is a bias
module _ (t dim o wide text : ℕ) (bias : Bool) where
  abbrev parts : Table
  parts = projector dim wide text bias

  unfoldable pub proj_norm : List Float → List Float → List Float
  proj_norm w h = norm_of t dim (part parts "norm" w) h

  unfoldable pub merging_layer : List Float → List Float → List Float
  merging_layer w g = linear_of o wide dim (part parts "merging_layer" w) g

  unfoldable pub linear1 : List Float → List Float → List Float
  linear1 w a = linear_by (bias_of bias parts "linear_1_bias" w) o dim text (part parts "linear_1" w) a

  unfoldable pub linear2 : List Float → List Float → List Float
  linear2 w b = linear_by (bias_of bias parts "linear_2_bias" w) o text text (part parts "linear_2" w) b

  unfoldable pub project_run : ℕ → ℕ → ℕ → List Float → List Float → Run
  project_run merge gh gw w h =
      let x = proj_norm w h in
      let a = merging_layer w (merge_of merge gh gw dim x) in
      let b = linear1 w a in
      let c = gelued (o * text) b in
      let d = linear2 w c in
      examined (x ∷ a ∷ b ∷ c ∷ d ∷ []) d

-- ---- the run

-- the sizes of a call with t tokens in a grid gw wide
abbrev pub sizes_of : EncoderSettings → ℕ → ℕ → Sizes
sizes_of s t gw =
    record {
      tokens = t;
      grid_w = gw;
      side = most s.picture;
      hidden = s.hidden_size;
      heads = s.num_heads;
      head_dim = s.head_dim;
      inter = s.intermediate_size;
      scaling = s.scaling;
    }

-- t tokens of a grid gh by gw, of which o are left: the inputs are examined, then the embedding, the layers, the projector
unfoldable pub run_of : EncoderSettings → ℕ → ℕ → ℕ → ℕ → List Float → List Float → List Float → List Float → Run
run_of s gh gw t o w cos sin x =
    let z = sizes_of s t gw in
    then_run (then_run (then_run (examined (x ∷ w ∷ cos ∷ sin ∷ []) x)
    (embed_run z (patch_floats s.picture.patch_size) (part (weights s) "embedding" w)))
    (layers_run z (part (weights s) "layers" w) cos sin s.num_layers))
    (project_run t z.hidden o (z.hidden * merge_area s.picture) s.text_hidden_size (has_bias s) s.picture.spatial_merge_size gh gw (part (weights s) "projector" w))

abbrev pub forward_run : EncoderSettings → ℕ → ℕ → List Float → List Float → List Float → List Float → Run
forward_run s gh gw = run_of s gh gw (gh * gw) (gh * gw / merge_area s.picture)
