-- The bytes of a tensor as values, each the pattern of an f32; and the bytes of such patterns. Assumes nothing.
use Rattle.std.specs.Prelude.{List, [], ◌∷◌, ℕ, zero, suc, ◌+◌, ◌*◌, ◌/◌, ◌%◌, length, get_or}
use Rattle.buffers.specs.Rows.{tab, rows}
use Rattle.buffers.specs.Region.{region}
use Rattle.number_bf16_half_root.specs.Packed.{widened}
use Rattle.number_bf16_half_root.specs.Half.{half}
use Rattle.tensor_values.specs.declared.Kind.{Kind}
use Rattle.tensor_values.specs.declared.Kind.TheVariants.{F32, BF16, F16}

-- how many bytes a value of the kind has
abbrev pub size_of : Kind → ℕ
size_of F32 = 4
size_of BF16 = 2
size_of F16 = 2

-- bytes as a number, the lowest first
abbrev pub little : List ℕ → ℕ
little [] = 0
little (x ∷ xs) = x + little xs * 256

-- the f32 of a value, by its own pattern: of an F32 that pattern, of a BF16 the one that has it as its high half, of an F16 the `half` of it
abbrev pub widened_by : Kind → ℕ → ℕ
widened_by F32 x = x
widened_by BF16 x = widened x
widened_by F16 x = half x

-- value i of the bytes
unfoldable pub value_of : Kind → List ℕ → ℕ → ℕ
value_of k b i = widened_by k (little (region b (i * size_of k) (size_of k)))

-- all of them; bytes at the end that make no whole value are left out
unfoldable pub values_of : Kind → List ℕ → List ℕ
values_of k b = tab (length b / size_of k) (value_of k b)

-- ---- the way back: n bytes of a number, the lowest first
unfoldable pub digits : ℕ → ℕ → List ℕ
digits zero x = []
digits (suc n) x = x % 256 ∷ digits n (x / 256)

-- n bytes of each
abbrev pub bytes_by : ℕ → List ℕ → List ℕ
bytes_by n l = rows (length l) (λ i. digits n (get_or l i 0))

-- four bytes of each pattern of an f32
abbrev pub bytes_of : List ℕ → List ℕ
bytes_of l = bytes_by 4 l

-- two bytes of each pattern of a bf16 or of a half
abbrev pub halves_of : List ℕ → List ℕ
halves_of l = bytes_by 2 l
