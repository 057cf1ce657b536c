-- The four neighbours weighed across first and then down, and what is rounded to a byte. Assumes nothing.
use Rattle.std.specs.Prelude.{◌*◌, ◌≤◌, true, false, cond, Float}
use Rattle.std.specs.Float.{nan, inf, fin, binary64}
use Rattle.std.specs.Float.Ieee.{add, mul, lt, up, down}
use Rattle.number_floats.specs.Constants.{zero64}
use Rattle.picture_resize.specs.Resize.{byte_top}

-- two values of an upper row by its weight g, and two of a lower one by f
unfoldable pub weighed : Float → Float → Float → Float → Float → Float → Float
weighed a0 b0 a1 b1 g f = add binary64 (add binary64 (add binary64 (mul binary64 a0 g) (mul binary64 b0 g)) (mul binary64 a1 f)) (mul binary64 b1 f)

-- x held from 0 to 255; 0 where it is no number
abbrev pub held_low : Float → Float
held_low x = cond (lt zero64 x) x zero64

unfoldable pub held : Float → Float
held x = cond (lt (held_low x) byte_top) (held_low x) byte_top

-- z is a number from 0 to 255
abbrev pub Held : Float → Type 0
Held nan = ⊥
Held (inf s) = ⊥
Held (fin true m e) = ⊥
Held (fin false m e) = m * up e ≤ 255 * down e
