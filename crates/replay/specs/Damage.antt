-- One float of a list put wrong: 1 flips a bit, 2 is a NaN, 3 minus zero, 4 infinity. Assumes nothing.
use Rattle.std.specs.Prelude.{ℕ, ◌%◌, ◌^◌, cond, List, length, ◌==◌, bit_xor, from_bits, nat_lt, slice_index_or, slice_set, to_bits, Float}
use Rattle.std.specs.Float.{nan, binary32}

unfoldable pub damaged_bits : ℕ → ℕ → ℕ → ℕ
damaged_bits bits code place =
    cond (code == 1) (bit_xor bits (2 ^ (place % 32)))
    (cond (code == 2) 0x7FC0_0000
    (cond (code == 3) 0x8000_0000
    (cond (code == 4) 0x7F80_0000
    bits)))

unfoldable pub damaged : List Float → ℕ → ℕ → List Float
damaged l code place =
    cond (nat_lt place (length l))
    (slice_set l place (from_bits binary32 (damaged_bits (to_bits binary32 (slice_index_or l place nan)) code place)))
    l
