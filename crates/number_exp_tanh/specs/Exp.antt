-- E: each operation is an f64's, rounded once, in the rule's order. Assumes nothing.
use Rattle.std.specs.Prelude.{ℕ, zero, suc, false, cond, pos, from_bits, to_bits, Float}
use Rattle.std.specs.Float.{nan, inf, fin, binary32, binary64}
use Rattle.std.specs.Float.Ieee.{minus, neg, add, sub, mul, div, le, ne, of_int, to_unsigned}
use Rattle.number_floats.specs.Constants.{zero32, one64}
use Rattle.number_floats.specs.Whole.{one_half, floor}
use Rattle.number_floats.specs.Narrow.{narrow}

-- L, as f64
abbrev pub L : Float
L = from_bits binary64 0x3FE6_2E42_FEFA_39EF

-- for i down to 1, p = 1 + (r * p) / i
abbrev pub term : Float → Float → Float → Float
term r p n = add binary64 one64 (div binary64 (mul binary64 r p) n)

unfoldable pub series : Float → ℕ → Float → Float
series r zero p = p
series r (suc i) p = series r i (term r p (of_int binary64 (pos (suc i))))

-- 2 ^ k for a whole number k
abbrev pub two_to : Float → Float
two_to k = fin false 1 (minus (to_unsigned 64 k) (to_unsigned 64 (neg k)))

-- k, r and F
abbrev pub k_of : Float → Float
k_of x = floor (add binary64 (div binary64 x L) one_half)

abbrev pub r_with : Float → Float → Float
r_with x k = sub binary64 x (mul binary64 k L)

abbrev pub r_of : Float → Float
r_of x = r_with x (k_of x)

abbrev pub F : Float → Float
F x = mul binary64 (series (r_of x) 10 one64) (two_to (k_of x))

-- 89 and −104, as f32
abbrev pub top : Float
top = from_bits binary32 0x42B2_0000

abbrev pub bottom : Float
bottom = neg (from_bits binary32 0x42D0_0000)

unfoldable pub E : Float → Float
E x =
    cond (ne x x) nan
    (cond (le top x) (inf false)
    (cond (le x bottom) zero32
    (narrow (F x))))

-- of a pattern; a NaN's gives 0x7FC0_0000
unfoldable pub exp_bits : ℕ → ℕ
exp_bits b = to_bits binary32 (E (from_bits binary32 b))
