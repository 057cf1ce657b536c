-- The bilinear resize, in f64, each operation rounded, in the source's order. Assumes nothing.
use Rattle.std.specs.Prelude.{ℕ, ◌+◌, ◌-◌, ◌*◌, min, cond, ◌&&◌, List, length, pos, ◌==◌, from_bits, nat_lt, slice_index, Float}
use Rattle.std.specs.Float.{binary64}
use Rattle.std.specs.Float.Ieee.{add, sub, mul, div, lt, of_int, to_unsigned}
use Rattle.number_floats.specs.Constants.{zero64, one64}
use Rattle.number_floats.specs.Whole.{floor, away}
use Rattle.picture_resize.specs.declared.Near.{Near}
use Rattle.picture_limits.specs.Settings.{sided}

-- a whole number as an f64
unfoldable pub whole : ℕ → Float
whole n = of_int binary64 (pos n)

-- index × (source side / target side)
abbrev pub place : ℕ → ℕ → ℕ → Float
place from to i = mul binary64 (whole i) (div binary64 (whole from) (whole to))

-- the neighbours of a place, held inside the picture, and how far the place is from the first
abbrev pub low_of : ℕ → Float → ℕ
low_of from y = min (to_unsigned 64 (floor y)) (from - 1)

abbrev pub near_to : ℕ → Float → Near
near_to from y = record { low = low_of from y; high = min (low_of from y + 1) (from - 1); part = sub binary64 y (whole (low_of from y)) }

unfoldable pub near : ℕ → ℕ → ℕ → Near
near from to i = near_to from (place from to i)

-- the four neighbours, weighed
unfoldable pub blend : Float → Float → Float → Float → Float → Float → Float
blend v00 v01 v10 v11 fy fx =
    add binary64 (add binary64 (add binary64
    (mul binary64 (mul binary64 v00 (sub binary64 one64 fx)) (sub binary64 one64 fy))
    (mul binary64 (mul binary64 v01 fx) (sub binary64 one64 fy)))
    (mul binary64 (mul binary64 v10 (sub binary64 one64 fx)) fy))
    (mul binary64 (mul binary64 v11 fx) fy)

-- 255, as f64
abbrev pub byte_top : Float
byte_top = from_bits binary64 0x406F_E000_0000_0000

-- clamped to 0..255
abbrev pub clamp : Float → Float
clamp x = cond (lt x zero64) zero64 (cond (lt byte_top x) byte_top x)

-- rounded half away from zero, clamped, as a byte
unfoldable pub to_byte : Float → ℕ
to_byte x = to_unsigned 8 (clamp (away x))

-- the byte at a row, a column and a channel of a picture of width w
abbrev pub pixel : List ℕ → ℕ → ℕ → ℕ → ℕ → ℕ
pixel rgb w y x c = slice_index rgb ((y * w + x) * 3 + c)

unfoldable pub mix : List ℕ → ℕ → Near → Near → ℕ → ℕ
mix rgb w y x c =
    to_byte (blend
    (whole (pixel rgb w y.low x.low c)) (whole (pixel rgb w y.low x.high c))
    (whole (pixel rgb w y.high x.low c)) (whole (pixel rgb w y.high x.high c))
    y.part x.part)

-- the resized picture's byte: rgb has h rows of w, and the target th rows of tw
abbrev pub resized_at : List ℕ → ℕ → ℕ → ℕ → ℕ → ℕ → ℕ → ℕ → ℕ
resized_at rgb h w th tw y x c = mix rgb w (near h th y) (near w tw x) c

-- as a function for anyone: 0 where a side is not allowed, rgb is not h rows of w pixels, or there is no channel c
unfoldable pub resized_byte : List ℕ → ℕ → ℕ → ℕ → ℕ → ℕ → ℕ → ℕ → ℕ
resized_byte rgb h w th tw y x c = cond (sided h w && length rgb == h * w * 3 && nat_lt c 3) (resized_at rgb h w th tw y x c) 0
