-- The tensors that `load_pixtral_encoder_inner` asks a file for: the parts of the weights' table, in its order, each by its
-- name in the file and its count of floats. Assumes nothing.
use Rattle.std.specs.Prelude.{cond, List, [], ◌∷◌, ◌++◌, ℕ, zero, suc, ◌+◌, ◌*◌, ◌/◌, ◌%◌, ltb, Option, None}
use Prim.Native.String.{String}
use lib.Text.{eqt}
use Rattle.buffers.specs.Rows.{rows}
use Rattle.picture_limits.specs.Places.{patch_floats}
use Rattle.json_members.specs.Names.{word, Entry, lookup}
use Rattle.encoder_settings.specs.declared.EncoderSettings.{EncoderSettings}
use Rattle.encoder_settings.specs.Weights.{Table, embedding, layer, projector, has_bias}

-- ---- names

-- what a file calls each part of the table; those of a layer stand behind the layer's own prefix
abbrev pub called : List (String × String)
called =
    ("patch_conv", "vision_tower.patch_conv.weight") ∷ ("ln_pre", "vision_tower.ln_pre.weight")
    ∷ ("attention_norm", "attention_norm.weight") ∷ ("q", "attention.q_proj.weight") ∷ ("k", "attention.k_proj.weight")
    ∷ ("v", "attention.v_proj.weight") ∷ ("o", "attention.o_proj.weight") ∷ ("ffn_norm", "ffn_norm.weight")
    ∷ ("gate", "feed_forward.gate_proj.weight") ∷ ("up", "feed_forward.up_proj.weight") ∷ ("down", "feed_forward.down_proj.weight")
    ∷ ("norm", "multi_modal_projector.norm.weight") ∷ ("merging_layer", "multi_modal_projector.patch_merger.merging_layer.weight")
    ∷ ("linear_1", "multi_modal_projector.linear_1.weight") ∷ ("linear_1_bias", "multi_modal_projector.linear_1.bias")
    ∷ ("linear_2", "multi_modal_projector.linear_2.weight") ∷ ("linear_2_bias", "multi_modal_projector.linear_2.bias") ∷ []

-- the name beside a part
abbrev pub beside : List (String × String) → String → List ℕ
beside [] part = []
beside (c ∷ cs) part = cond (eqt c.0 part) (word c.1) (beside cs part)

-- the last k digits of n, or all of them where they are fewer
unfoldable pub last_digits : ℕ → ℕ → List ℕ
last_digits zero n = []
last_digits (suc k) n = let front = last_digits k (n / 10) in cond (ltb n 10) ((48 + n) ∷ []) (front ++ ((48 + n % 10) ∷ []))

-- n in decimal: it has at most n + 1 digits
abbrev pub decimal : ℕ → List ℕ
decimal n = last_digits (suc n) n

-- in front of the parts of layer l
abbrev pub in_layer : ℕ → List ℕ
in_layer l = word "vision_tower.transformer.layers." ++ (decimal l ++ word ".")

-- ---- tensors

pub record Tensor : Type 0 where
  pub name : List ℕ
  pub count : ℕ

-- the parts of a table, their names behind a prefix
abbrev pub tensors_of : List ℕ → Table → List Tensor
tensors_of prefix [] = []
tensors_of prefix (p ∷ t) = record { name = prefix ++ beside called p.0; count = p.1 } ∷ tensors_of prefix t

abbrev pub embedding_tensors : EncoderSettings → List Tensor
embedding_tensors s = tensors_of [] (embedding s.hidden_size (patch_floats s.picture.patch_size))

abbrev pub layer_tensors : EncoderSettings → ℕ → List Tensor
layer_tensors s l = tensors_of (in_layer l) (layer s.hidden_size s.intermediate_size)

abbrev pub projector_tensors : EncoderSettings → List Tensor
projector_tensors s =
    let H = s.hidden_size in
    let m = s.picture.spatial_merge_size in
    tensors_of [] (projector H (H * (m * m)) s.text_hidden_size (has_bias s))

unfoldable pub tensors : EncoderSettings → List Tensor
tensors s = embedding_tensors s ++ (rows s.num_layers (layer_tensors s) ++ projector_tensors s)

-- ---- in a header

-- the entry of tensor i: the last member of its name, if there is one
unfoldable pub entry_at : List Tensor → List Entry → ℕ → Option Entry
entry_at [] es i = None
entry_at (t ∷ ts) es zero = lookup t.name es
entry_at (t ∷ ts) es (suc i) = entry_at ts es i

-- how many floats tensor i has
unfoldable pub count_at : List Tensor → ℕ → ℕ
count_at [] i = 0
count_at (t ∷ ts) zero = t.count
count_at (t ∷ ts) (suc i) = count_at ts i
