-- Laws of the values: how many there are, and what is read of the bytes of given patterns. Five statements; proofs/Laws.antt proves them. Assumes nothing.
use Rattle.std.specs.Prelude.{◌≡◌, List, map, ℕ, ◌/◌, ◌^◌, ◌<◌, length, get_or}
use Rattle.buffers.specs.Lent.{Bytes, Words}
use Rattle.number_bf16_half_root.specs.Packed.{widened}
use Rattle.number_bf16_half_root.specs.Half.{half}
use Rattle.tensor_values.specs.declared.Kind.{Kind}
use Rattle.tensor_values.specs.declared.Kind.TheVariants.{F32, BF16, F16}
use Rattle.tensor_values.specs.Values.{size_of, values_of, bytes_by, bytes_of, halves_of}

abbrev pub How-many : Type 0
How-many = (k : Kind) (b : List ℕ) → length (values_of k b) ≡ length b / size_of k

-- the bytes of any numbers are bytes
abbrev pub Made-of-bytes : Type 0
Made-of-bytes = (n : ℕ) (l : List ℕ) → Bytes (bytes_by n l)

-- the bytes of patterns of f32s have these patterns as their values
abbrev pub F32-back : Type 0
F32-back = (l : List ℕ) → Words l → values_of F32 (bytes_of l) ≡ l

-- each element is a pattern of 16 bits
abbrev pub Halfwords : List ℕ → Type 0
Halfwords l = (i : ℕ) → get_or l i 0 < 2 ^ 16

-- those of bf16s and of halves have the f32s that these widen to
abbrev pub BF16-widened : Type 0
BF16-widened = (l : List ℕ) → Halfwords l → values_of BF16 (halves_of l) ≡ map widened l

abbrev pub F16-widened : Type 0
F16-widened = (l : List ℕ) → Halfwords l → values_of F16 (halves_of l) ≡ map half l
