-- What is true of every lent buffer by its type alone. Assumes nothing.
use Rattle.std.specs.Prelude.{List, ℕ, ◌<◌, T, get_or, Float}
use Rattle.std.specs.Float.{nan, binary32}
use Rattle.std.specs.Float.Ieee.{fits}

-- true of every `&[u8]`: each element is below 256
abbrev pub Bytes : List ℕ → Type 0
Bytes l = (k : ℕ) → get_or l k 0 < 256

-- true of every `&[u32]`: each element is below 2 ^ 32
abbrev pub Words : List ℕ → Type 0
Words l = (k : ℕ) → get_or l k 0 < 4294967296

-- true of every `&[f32]`: each element is an f32
abbrev pub Floats : List Float → Type 0
Floats l = (k : ℕ) → T (fits binary32 (get_or l k nan))
