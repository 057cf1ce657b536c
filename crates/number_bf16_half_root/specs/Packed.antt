-- bf16 in storage: 16 bits for each value. Assumes nothing.
use Rattle.std.specs.Prelude.{ℕ, ◌*◌, ◌/◌, ◌^◌, min, List, length}
use Rattle.buffers.specs.Region.{over}
use Rattle.buffers.specs.Each.{each}
use Rattle.number_bf16_half_root.specs.Bf16.{bf16}

-- the high half of the rounded pattern
abbrev pub packed : ℕ → ℕ
packed x = bf16 x / 2 ^ 16

-- the pattern of which b is the high half
abbrev pub widened : ℕ → ℕ
widened b = b * 2 ^ 16

-- f of x's elements over the front of out, of as many as both have; the tail is kept
abbrev pub front : (ℕ → ℕ) → List ℕ → List ℕ → List ℕ
front f x out = over (each 0 (min (length x) (length out)) f x) out

unfoldable pub packed_all : List ℕ → List ℕ → List ℕ
packed_all x out = front packed x out

unfoldable pub widened_all : List ℕ → List ℕ → List ℕ
widened_all b out = front widened b out
