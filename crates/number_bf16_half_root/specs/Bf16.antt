-- bf16. Assumes nothing.
use Rattle.std.specs.Prelude.{ℕ, ◌+◌, ◌*◌, ◌/◌, ◌%◌, ◌^◌, from_bits, to_bits, Float}
use Rattle.std.specs.Float.{binary32}

-- x plus 0x7FFF plus bit 16, wrapping; then the low 16 bits cleared
unfoldable pub bf16 : ℕ → ℕ
bf16 x = (x + (0x7FFF + x / 2 ^ 16 % 2)) % 2 ^ 32 / 2 ^ 16 * 2 ^ 16

-- of a float, by its pattern
unfoldable pub bf16_of : Float → Float
bf16_of x = from_bits binary32 (bf16 (to_bits binary32 x))
