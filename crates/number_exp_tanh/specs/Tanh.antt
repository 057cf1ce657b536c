-- T: each operation is an f64's, rounded once, in the rule's order. Assumes nothing.
use Rattle.std.specs.Prelude.{ℕ, Bool, cond, ◌&&◌, from_bits, to_bits, Float}
use Rattle.std.specs.Float.{nan, binary32, binary64}
use Rattle.std.specs.Float.Ieee.{neg, add, sub, mul, div, lt, le, ne}
use Rattle.number_floats.specs.Constants.{one32, one64}
use Rattle.number_floats.specs.Narrow.{narrow}
use Rattle.number_exp_tanh.specs.Exp.{F}

-- two, three and fifteen, as f64; ten and 2 ^ -6, as f32
abbrev pub two : Float
two = from_bits binary64 0x4000_0000_0000_0000

abbrev pub three : Float
three = from_bits binary64 0x4008_0000_0000_0000

abbrev pub fifteen : Float
fifteen = from_bits binary64 0x402E_0000_0000_0000

abbrev pub ten : Float
ten = from_bits binary32 0x4120_0000

abbrev pub sixty_fourth : Float
sixty_fourth = from_bits binary32 0x3C80_0000

-- |y| is below 2 ^ -6
abbrev pub near : Float → Bool
near y = lt (neg sixty_fourth) y && lt y sixty_fourth

-- 1 − z / 3 + z · z · 2 / 15, left to right
abbrev pub bend : Float → Float
bend z = add binary64 (sub binary64 one64 (div binary64 z three)) (div binary64 (mul binary64 (mul binary64 z z) two) fifteen)

-- y (1 − z / 3 + z · z · 2 / 15), with z = y · y
unfoldable pub near_zero : Float → Float
near_zero y = mul binary64 y (bend (mul binary64 y y))

-- (f - 1) / (f + 1)
abbrev pub from_f : Float → Float
from_f f = div binary64 (sub binary64 f one64) (add binary64 f one64)

unfoldable pub T : Float → Float
T y =
    cond (ne y y) nan
    (cond (le ten y) one32
    (cond (le y (neg ten)) (neg one32)
    (cond (near y) (narrow (near_zero y))
    (narrow (from_f (F (mul binary64 two y)))))))

-- of a pattern; a NaN's gives 0x7FC0_0000
unfoldable pub tanh_bits : ℕ → ℕ
tanh_bits b = to_bits binary32 (T (from_bits binary32 b))
