-- The tensors' names, one by one. Assumes nothing.
use Rattle.std.specs.Prelude.{Bool, false, List, [], ◌∷◌, ℕ, zero, suc}
use Rattle.encoder_settings.specs.Weights.{embedding, layer, projector}
use Rattle.json_members.specs.inner.Bytes.{name_is}
use Rattle.tensor_header.specs.Tensors.{Tensor, tensors_of}

abbrev pub names : List Tensor → List (List ℕ)
names [] = []
names (t ∷ ts) = t.name ∷ names ts

-- name i is there, and stands at the front of l, behind a quotation mark
abbrev pub named_at : List (List ℕ) → ℕ → List ℕ → Bool
named_at [] i l = false
named_at (w ∷ ws) zero l = name_is w l
named_at (w ∷ ws) (suc i) l = named_at ws i l

-- name i
abbrev pub name_at : List (List ℕ) → ℕ → List ℕ
name_at [] i = []
name_at (w ∷ ws) zero = w
name_at (w ∷ ws) (suc i) = name_at ws i

-- ---- the names of the tables, which no size changes

abbrev pub embedding_names : List (List ℕ)
embedding_names = names (tensors_of [] (embedding 0 0))

abbrev pub part_names : List (List ℕ)
part_names = names (tensors_of [] (layer 0 0))

abbrev pub projector_names : Bool → List (List ℕ)
projector_names bias = names (tensors_of [] (projector 0 0 0 bias))
