-- The numbers that a call can return, and the first refusal that applies. Assumes nothing.
use Rattle.std.specs.Prelude.{Bool, true, false, ℕ, zero, suc, Result, Ok, Err}
use Rattle.picture_limits.specs.declared.Refusal as D
use Rattle.picture_limits.specs.declared.Refusal.TheVariants.{Setting, Side, RgbLength, ImageSize, Output, Grid, PatchesLength, Sample, WeightsLength, TableLength, Scratch, NotFinite, ConfigText, ConfigDepth, ConfigVision, Header, Tensor, Offsets, Channel, Tile, List, Tokens, KeyHeld, NoVectors, PoolFull, KeyUnknown, PoolSlice}

abbrev pub number : D.Refusal → ℕ
number Setting = 1
number Side = 2
number RgbLength = 3
number ImageSize = 4
number Output = 5
number Grid = 6
number PatchesLength = 7
number Sample = 8
number WeightsLength = 9
number TableLength = 10
number Scratch = 11
number NotFinite = 12
number ConfigText = 13
number ConfigDepth = 14
number ConfigVision = 15
number Header = 16
number Tensor = 17
number Offsets = 18
number Channel = 19
number Tile = 20
number List = 21
number Tokens = 22
number KeyHeld = 23
number NoVectors = 24
number PoolFull = 25
number KeyUnknown = 26
number PoolSlice = 27

-- the paper's number of an answer: 0 where it is no refusal
abbrev pub number_of : {A : Type 0} → Result A D.Refusal → ℕ
number_of (Ok a) = 0
number_of (Err r) = number r

-- a size that is reported beside the number n: 0 for every size of a refusal
abbrev pub reported : ℕ → ℕ → ℕ
reported zero size = size
reported (suc n) size = 0

-- the answer where the test passes, and the refusal where it fails
abbrev pub unless : {A : Type 0} → Bool → A → A → A
unless true refused answer = answer
unless false refused answer = refused
