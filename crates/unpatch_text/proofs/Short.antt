-- How long the lines are: the text is never longer than 25,094 bytes. Assumes nothing.
use mathlib.Core.Path.{ap}
use mathlib.Core.List.{List, [], ◌∷◌, ◌++◌}
use Prim.Native.Nat.{ℕ, zero, suc, ◌+◌, ◌-◌, ◌*◌, ◌/◌, ◌%◌, ◌^◌, ◌≤◌, ◌<◌}
use native.Mathlib.Nat.{div-le_self}
use native.Mathlib.Decide.{dec_lt}
use native.Mathlib.Omega.{arith}
use lib.ListN.{length, drop, length-append, length-take}
use Rattle.buffers.specs.Rows.{rows}
use Rattle.buffers.specs.Region.{region}
use Rattle.picture_limits.specs.declared.Refusal.{Refusal}
use Rattle.picture_limits.specs.declared.Refusal.TheVariants.{Setting, Side, RgbLength, ImageSize, Output, Grid, PatchesLength, Sample, WeightsLength, TableLength, Scratch, NotFinite, ConfigText, ConfigDepth, ConfigVision, Header, Tensor, Offsets, Channel, Tile, KeyHeld, NoVectors, PoolFull, KeyUnknown, PoolSlice}
use Rattle.picture_limits.specs.Refusal.{number}
use Rattle.picture_limits.proofs.Places.{times}
use Rattle.unpatch_text.specs.Print.{decimal_text, refused_line, grid_line, row_line, row_lines}
use Rattle.unpatch_text.proofs.Writes.{digits-one, digits_more, length-refused, length-grid, length-row}

-- a number below 10 ^ k has at most k digits
pub digits_le : (k n : ℕ) → n < 10 ^ suc k → length (decimal_text n) ≤ suc k
digits_le zero n h = omega (arith, ap length (digits-one n h))
digits_le (suc k) n h = go (dec_lt n 10) (λ l. digits_le k (n / 10) l)
  where
    go : Dec (n < 10) → (n / 10 < 10 ^ suc k → length (decimal_text (n / 10)) ≤ suc k) → length (decimal_text n) ≤ suc (suc k)
    go (yes l) r = omega (arith, ap length (digits-one n l))
    go (no l) r = omega (arith, ap length (digits_more n (omega arith)), length-append (decimal_text (n / 10)) ((48 + n % 10) ∷ []), r (omega arith))

number-le : (r : Refusal) → number r ≤ 27
number-le Setting = omega arith
number-le Side = omega arith
number-le RgbLength = omega arith
number-le ImageSize = omega arith
number-le Output = omega arith
number-le Grid = omega arith
number-le PatchesLength = omega arith
number-le Sample = omega arith
number-le WeightsLength = omega arith
number-le TableLength = omega arith
number-le Scratch = omega arith
number-le NotFinite = omega arith
number-le ConfigText = omega arith
number-le ConfigDepth = omega arith
number-le ConfigVision = omega arith
number-le Header = omega arith
number-le Tensor = omega arith
number-le Offsets = omega arith
number-le Channel = omega arith
number-le Tile = omega arith
number-le Refusal.List = omega arith
number-le Refusal.Tokens = omega arith
number-le KeyHeld = omega arith
number-le NoVectors = omega arith
number-le PoolFull = omega arith
number-le KeyUnknown = omega arith
number-le PoolSlice = omega arith

pub refused-short : (r : Refusal) → length (refused_line (number r)) ≤ 25094
refused-short r = omega (arith, length-refused (number r), digits_le 1 (number r) (omega (arith, number-le r)))

-- the first ten rows have one digit in their index, and the next 54 have two
rows_short : (h n : ℕ) (bs : List ℕ) → h ≤ 64 → n ≤ 192 → length (row_lines h n bs) ≤ 391 * h + (h - 10)
unfolding rows
rows_short zero n bs a b = omega arith
rows_short (suc h) n bs a b =
    let f : ℕ → List ℕ = λ y. row_line y (region bs (y * n) n) in
    omega (arith, rows_short h n bs (omega arith) b, length-append (rows h f) (f h), length-row h (region bs (h * n) n), length-take n (drop (h * n) bs), go (dec_lt h 10))
  where
    go : Dec (h < 10) → length (decimal_text h) + (h - 10) ≤ 1 + (suc h - 10)
    go (yes l) = omega (arith, digits_le 0 h l)
    go (no l) = omega (arith, digits_le 1 h (omega arith))

pub shown-short : (gh gw m h n : ℕ) (bs : List ℕ) → gh ≤ 64 → gw ≤ 64 → h ≤ 64 → n ≤ 192 → length (grid_line gh gw (gh * gw / (m * m)) ++ row_lines h n bs) ≤ 25094
shown-short gh gw m h n bs a b c d =
    let t = gh * gw / (m * m) in
    let k : t ≤ 4096 = omega (arith, div-le_self (gh * gw) (m * m), times gh gw 64 64 a b) in
    omega (arith, length-append (grid_line gh gw t) (row_lines h n bs), length-grid gh gw t, digits_le 1 gh (omega arith), digits_le 1 gw (omega arith), digits_le 3 t (omega arith), rows_short h n bs c d)
