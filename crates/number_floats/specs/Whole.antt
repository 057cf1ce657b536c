-- Whole numbers near an f64. Assumes nothing.
use Rattle.std.specs.Prelude.{ℕ, ◌+◌, ◌-◌, ◌*◌, ◌/◌, Bool, true, false, from_bits, Float}
use Rattle.std.specs.Float.{nan, inf, fin, binary64}
use Rattle.std.specs.Float.Ieee.{up, down, round}

-- one half, as f64
abbrev pub one_half : Float
one_half = from_bits binary64 0x3FE0_0000_0000_0000

-- the size of the largest whole number not above a / c, or not above -a / c
abbrev pub floor_size : Bool → ℕ → ℕ → ℕ
floor_size false a c = a / c
floor_size true a c = (a + (c - 1)) / c

abbrev pub floor : Float → Float
floor nan = nan
floor (inf s) = inf s
floor (fin s m e) = round binary64 s (floor_size s (m * up e) (down e)) 1

-- the whole number nearest to a / c, a tie upward
abbrev pub away_size : ℕ → ℕ → ℕ
away_size a c = (2 * a + c) / (2 * c)

-- the nearest whole number, a tie away from zero
abbrev pub away : Float → Float
away nan = nan
away (inf s) = inf s
away (fin s m e) = round binary64 s (away_size (m * up e) (down e)) 1
