-- Samples that have the bits of a byte, and their bytes. Assumes nothing.
use Rattle.std.specs.Prelude.{Bool, List, ℕ, length, get_or, Float}
use Rattle.std.specs.Float.{nan, binary32}
use Rattle.std.specs.Float.Ieee.{to_bits}
use Rattle.buffers.specs.Rows.{all}
use Rattle.picture_spot.specs.Bytes.{known_at, bytes_by}

-- the bits of sample i
abbrev pub bits_of : List Float → ℕ → ℕ
bits_of l i = to_bits binary32 (get_or l i nan)

-- by a table k: every sample has the bits of a byte in its channel
unfoldable pub known : (ℕ → ℕ → ℕ) → ℕ → List Float → Bool
known k p l = all (length l) (known_at k p (bits_of l))

-- the bytes of the samples, by row, column and channel
abbrev pub bytes_from : (ℕ → ℕ → ℕ) → ℕ → List Float → ℕ → ℕ → List ℕ
bytes_from k p l gh gw = bytes_by (λ b. b) k p gh gw (bits_of l)
