-- The weights: one slice, of named parts that stand one behind the other. A norm has H floats; a matrix is row-major, [out, in],
-- and has out * in; a bias has out. H hidden, I intermediate, X text. Assumes nothing.
use Rattle.std.specs.Prelude.{Bool, true, false, cond, List, [], ◌∷◌, ℕ, ◌+◌, ◌*◌, eqb, take, drop, Float}
use Prim.Native.String.{String}
use lib.Text.{eqt}
use Rattle.buffers.specs.Region.{region}
use Rattle.picture_limits.specs.Places.{patch_floats}
use Rattle.encoder_settings.specs.declared.EncoderSettings.{EncoderSettings}

-- ---- a table: the parts in order, each by its name and its count of floats

abbrev pub Table : Type 0
Table = List (String × ℕ)

-- the floats of all parts
abbrev pub floats : Table → ℕ
floats [] = 0
floats (p ∷ t) = p.1 + floats t

-- a slice cut into its parts: each name with the floats that are its own
unfoldable pub cut : Table → List Float → List (String × List Float)
cut [] w = []
cut (p ∷ t) w = (p.0, take p.1 w) ∷ cut t (drop p.1 w)

-- the floats under a name
unfoldable pub named : List (String × List Float) → String → List Float
named [] name = []
named (p ∷ ps) name = cond (eqt p.0 name) p.1 (named ps name)

-- the part of that name, of a slice w
abbrev pub part : Table → String → List Float → List Float
part t name w = named (cut t w) name

-- ---- the tables

-- with F floats a patch
abbrev pub embedding : ℕ → ℕ → Table
embedding H F = ("patch_conv", H * F) ∷ ("ln_pre", H) ∷ []

abbrev pub layer : ℕ → ℕ → Table
layer H I =
    ("attention_norm", H) ∷ ("q", H * H) ∷ ("k", H * H) ∷ ("v", H * H) ∷ ("o", H * H)
    ∷ ("ffn_norm", H) ∷ ("gate", I * H) ∷ ("up", I * H) ∷ ("down", H * I) ∷ []

-- layer l of a slice w of layers
abbrev pub nth_layer : ℕ → ℕ → ℕ → List Float → List Float
nth_layer H I l w = region w (l * floats (layer H I)) (floats (layer H I))

-- a part that takes a place only where it is there
abbrev pub if_there : Bool → String × ℕ → Table → Table
if_there true p t = p ∷ t
if_there false p t = t

-- with wide floats a merged row, and a bias behind each of the last two matrices or neither
abbrev pub projector : ℕ → ℕ → ℕ → Bool → Table
projector H wide X bias =
    ("norm", H) ∷ ("merging_layer", H * wide) ∷ ("linear_1", X * H) ∷ if_there bias ("linear_1_bias", X)
    (("linear_2", X * X) ∷ if_there bias ("linear_2_bias", X) [])

-- whether the settings say that linear_1 and linear_2 have a bias
abbrev pub has_bias : EncoderSettings → Bool
has_bias s = eqb s.projector_bias 1

-- all weights: the embedding's, those of each layer, the projector's
abbrev pub weights : EncoderSettings → Table
weights s =
    let H = s.hidden_size in
    let m = s.picture.spatial_merge_size in
    ("embedding", floats (embedding H (patch_floats s.picture.patch_size)))
    ∷ ("layers", s.num_layers * floats (layer H s.intermediate_size))
    ∷ ("projector", floats (projector H (H * (m * m)) s.text_hidden_size (has_bias s))) ∷ []
