-- What the steps without a branch ask of their values. Assumes nothing.
use Rattle.std.specs.Prelude.{ℕ, ◌*◌, ◌≤◌, ◌<◌, Bool, true, false, ◌&&◌, List, get_or, Float}
use Rattle.std.specs.Float.{nan, inf, fin, binary32, binary64}
use Rattle.std.specs.Float.Ieee.{up, neg, le, of_bits}
use Rattle.std.specs.Float.Ieee.Exact.{HasValue}

-- x is from −86 to 88
abbrev pub inside : Float → Bool
inside x = le (neg (of_bits binary32 0x42AC_0000)) x && le x (of_bits binary32 0x42B0_0000)

-- y is not −0
abbrev pub NoMinusZero : Float → Type 0
NoMinusZero nan = Unit {0}
NoMinusZero (inf s) = Unit {0}
NoMinusZero (fin false m e) = Unit {0}
NoMinusZero (fin true m e) = 0 < m * up e

-- k is a whole number, at most n in size
abbrev pub WholeUpTo : ℕ → Float → Type 0
WholeUpTo n k = (s : Bool) × (a : ℕ) × HasValue k s a 1 × (a ≤ n)

-- so is every lane of k
abbrev pub WholeLanes : List Float → Type 0
WholeLanes k = (l : ℕ) → l < 16 → WholeUpTo 1000 (get_or k l nan)

-- v is from 2 ^ -126 to 2 ^ 128: its f32 is normal, or infinity
abbrev pub normal : Float → Bool
normal v = le (of_bits binary64 0x3810_0000_0000_0000) v && le v (of_bits binary64 0x47F0_0000_0000_0000)
