-- The generator of bytes, words and floats. Assumes nothing.
use Rattle.std.specs.Prelude.{ℕ, zero, suc, ◌+◌, ◌*◌, ◌/◌, ◌%◌, List, pos, from_bits, Float}
use Rattle.std.specs.Float.{binary32}
use Rattle.std.specs.Float.Ieee.{of_int, div, sub}
use Rattle.buffers.specs.Rows.{tab}

abbrev pub next : ℕ → ℕ
next x = (x * 1664525 + 1013904223) % 4294967296

abbrev pub seeded : ℕ → ℕ
seeded seed = seed % 4294967296

-- the seed of the marks
abbrev pub marks : ℕ
marks = 77

-- after n steps from x
unfoldable pub stepped : ℕ → ℕ → ℕ
stepped x zero = x
stepped x (suc n) = next (stepped x n)

-- the upper 24 of 32 bits by 2²³, less 1
unfoldable pub unit_of : ℕ → Float
unit_of x = sub binary32 (div binary32 (of_int binary32 (pos (x / 256))) (from_bits binary32 0x4B00_0000)) (from_bits binary32 0x3F80_0000)

-- the upper 8 of the 32 bits, from the first step on
abbrev pub byte_at : ℕ → ℕ → ℕ
byte_at x k = stepped x (suc k) / 16777216

-- all 32 bits
abbrev pub word_at : ℕ → ℕ → ℕ
word_at x k = stepped x (suc k)

-- the nearest f32
abbrev pub float_at : ℕ → ℕ → Float
float_at x k = of_int binary32 (pos (stepped x (suc k)))

abbrev pub unit_at : ℕ → ℕ → Float
unit_at x k = unit_of (stepped x (suc k))

abbrev pub bytes : ℕ → ℕ → List ℕ
bytes x n = tab n (byte_at x)

abbrev pub words : ℕ → ℕ → List ℕ
words x n = tab n (word_at x)

abbrev pub floats : ℕ → ℕ → List Float
floats x n = tab n (float_at x)

-- from −1 to 1
abbrev pub units : ℕ → ℕ → List Float
units x n = tab n (unit_at x)
