-- The norm of rows, each value times 1 / root (mean square + eps), times its weight; and whether every value of a list
-- is finite, neither NaN nor an infinity. Assumes nothing.
use Rattle.std.specs.Prelude.{Bool, true, ◌&&◌, List, [], ◌∷◌, ℕ, pos, get_or, Float}
use Rattle.std.specs.Float.{nan, binary32}
use Rattle.std.specs.Float.Ieee.{add, mul, div, of_bits, of_int}
use Rattle.std.specs.Float.Ieee.Scale.{finite}
use Rattle.number_bf16_half_root.specs.Root.{root_of}
use Rattle.buffers.specs.Rows.{tab}
use Rattle.number_floats.specs.Constants.{one32}
use Rattle.buffers.specs.Each.{each_row}
use Rattle.encoder_linear.specs.Linear.{dot_of}

-- 1e-5 as an f32
abbrev pub eps32 : Float
eps32 = of_bits binary32 0x3727C5AC

unfoldable pub inv_rms : ℕ → List Float → Float
inv_rms dim x = div binary32 one32 (root_of (add binary32 (div binary32 (dot_of x x) (of_int binary32 (pos dim))) eps32))

unfoldable pub norm_row : ℕ → List Float → List Float → List Float
norm_row dim w x = tab dim (λ j. mul binary32 (mul binary32 (get_or x j nan) (inv_rms dim x)) (get_or w j nan))

-- n rows of dim, each normed
unfoldable pub norm_of : ℕ → ℕ → List Float → List Float → List Float
norm_of n dim w x = each_row n dim (λ _. norm_row dim w) x

unfoldable pub all_finite : List Float → Bool
all_finite [] = true
all_finite (x ∷ l) = finite x && all_finite l
