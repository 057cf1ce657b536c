-- A half's pattern as an f32's, by its fields as in `half_to_f32`. Assumes nothing.
use Rattle.std.specs.Prelude.{ℕ, ◌+◌, ◌-◌, ◌*◌, ◌/◌, ◌%◌, ◌^◌, cond, ◌==◌}
use Rattle.std.specs.Int.Count.{count_leading_zeros}

-- a mantissa with no leading one: it is shifted until it has 11 digits, which leaves 21 leading zeros of 32, and the exponent falls by one with each place
unfoldable pub subnormal : ℕ → ℕ
subnormal m =
    let shift = count_leading_zeros 32 m - 21 in
    cond (m == 0) 0 ((127 - 15 + 1 - shift) * 2 ^ 23 + m * 2 ^ shift % 2 ^ 10 * 2 ^ 13)

unfoldable pub half_size : ℕ → ℕ → ℕ
half_size exp mantissa =
    cond (exp == 0) (subnormal mantissa)
    (cond (exp == 31) (255 * 2 ^ 23 + mantissa * 2 ^ 13)
    ((exp + 127 - 15) * 2 ^ 23 + mantissa * 2 ^ 13))

unfoldable pub half : ℕ → ℕ
half h = h / 2 ^ 15 * 2 ^ 31 + half_size (h / 2 ^ 10 % 2 ^ 5) (h % 2 ^ 10)
