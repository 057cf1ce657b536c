-- A table whose patterns can be read as floats. Assumes nothing.
use Rattle.std.specs.Prelude.{not, List, ℕ, ◌<◌, T}
use Rattle.std.specs.Float.{binary32}
use Rattle.std.specs.Float.Ieee.{nan_bits}
use Rattle.picture_samples.specs.Samples.{entry}

-- no pattern in it is a NaN's
pub record Clean (t : List ℕ) : Type 0 where
  pub clean : (c b : ℕ) → c < 3 → b < 256 → T (not (nan_bits binary32 (entry t c b)))
