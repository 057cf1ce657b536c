-- An f64 narrowed to an f32; and the statement of it over integers. Assumes nothing.
use Rattle.std.specs.Prelude.{◌≡◌, ℕ, ◌*◌, ◌/◌, ◌%◌, ◌^◌, ◌<◌, ◌≤◌, from_bits, to_bits, Float}
use Rattle.std.specs.Float.{nan, inf, fin, binary32, binary64}
use Rattle.std.specs.Float.Ieee.{up, down, round}
use Rattle.number_floats.specs.Size.{size64, size32, Nearest}

-- the nearest f32, ties to even
unfoldable pub narrow : Float → Float
narrow nan = nan
narrow (inf s) = inf s
narrow (fin s m e) = round binary32 s (m * up e) (down e)

-- the same of a pattern; a NaN's gives 0x7FC0_0000
unfoldable pub narrow_bits : ℕ → ℕ
narrow_bits b = to_bits binary32 (narrow (from_bits binary64 b))

-- ---- over integers

-- b is the f64's pattern and r the f32's. The bits below the sign are those of a NaN where they are above infinity's
pub record Narrowed (b r : ℕ) : Type 0 where
  pub nan : 0x7FF0_0000_0000_0000 < b % 2 ^ 63 → r ≡ 0x7FC0_0000
  pub sign : b % 2 ^ 63 ≤ 0x7FF0_0000_0000_0000 → r / 2 ^ 31 ≡ b / 2 ^ 63
  pub near : b % 2 ^ 63 ≤ 0x7FF0_0000_0000_0000 → Nearest size32 0x7F80_0000 (size64 (b % 2 ^ 63)) (r % 2 ^ 31)
  pub infinite : b % 2 ^ 63 ≡ 0x7FF0_0000_0000_0000 → r % 2 ^ 31 ≡ 0x7F80_0000
