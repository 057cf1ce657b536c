-- The plainest safetensors file, as a writer of the public layout writes it: every tensor of one kind, a shape of one number,
-- one tensor's bytes behind another's, no blanks. Assumes nothing.
use Rattle.std.specs.Prelude.{List, [], ◌∷◌, ◌++◌, ℕ, ◌+◌, ◌*◌, length}
use Rattle.json_members.specs.Names.{word}
use Rattle.tensor_values.specs.declared.Kind.{Kind}
use Rattle.tensor_values.specs.declared.Kind.TheVariants.{F32, BF16, F16}
use Rattle.tensor_values.specs.Values.{size_of, digits}
use Rattle.tensor_header.specs.Tensors.{Tensor, decimal}

-- how a header calls a kind
abbrev pub dtype_of : Kind → List ℕ
dtype_of F32 = word "F32"
dtype_of BF16 = word "BF16"
dtype_of F16 = word "F16"

-- the bytes of a tensor, of which each value has as many as the kind
abbrev pub bytes_in : Kind → Tensor → ℕ
bytes_in k t = t.count * size_of k

-- "w"
abbrev pub quoted : List ℕ → List ℕ
quoted w = word "\"" ++ w ++ word "\""

-- "NAME":{"dtype":"F32","shape":[COUNT],"data_offsets":[A,B]}, for a tensor whose bytes begin at byte a of the data
unfoldable pub entry_text : Kind → Tensor → ℕ → List ℕ
entry_text k t a =
    quoted t.name ++ word ":{"
    ++ quoted (word "dtype") ++ word ":" ++ quoted (dtype_of k) ++ word ","
    ++ quoted (word "shape") ++ word ":[" ++ decimal t.count ++ word "],"
    ++ quoted (word "data_offsets") ++ word ":[" ++ decimal a ++ word "," ++ decimal (a + bytes_in k t) ++ word "]}"

-- the entries, a comma between two: each tensor's bytes begin where those before it end
unfoldable pub entries_text : Kind → List Tensor → ℕ → List ℕ
entries_text k [] a = []
entries_text k (t ∷ []) a = entry_text k t a
entries_text k (t ∷ (u ∷ ts)) a = entry_text k t a ++ word "," ++ entries_text k (u ∷ ts) (a + bytes_in k t)

unfoldable pub header_text : Kind → List Tensor → List ℕ
header_text k ts = word "{" ++ entries_text k ts 0 ++ word "}"

-- eight bytes of the header's length, the lowest first; the header; the data
unfoldable pub file_of : Kind → List Tensor → List ℕ → List ℕ
file_of k ts bytes = digits 8 (length (header_text k ts)) ++ header_text k ts ++ bytes
