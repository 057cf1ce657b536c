-- A byte spotted from its sample, by arithmetic or by halving. Assumes nothing.
use Rattle.std.specs.Prelude.{◌≡◌, Bool, true, cond, ◌&&◌, List, [], ◌∷◌, ℕ, zero, suc, ◌+◌, ◌/◌, ◌%◌, ◌<◌, eqb, ltb, get_or, Float, Option, Some, None}
use Rattle.std.specs.Float.{nan, binary32}
use Rattle.std.specs.Float.Ieee.{add, mul, lt, of_bits, to_bits}
use Rattle.buffers.specs.Rows.{all}
use Rattle.picture_samples.specs.Samples.{channels_allowed, value, entry}
use Rattle.picture_spot.specs.declared.Way.{Way}
use Rattle.picture_spot.specs.declared.Way.TheVariants.{Guess, Halve}

-- v times the slope, plus the shift, plus 2 ^ 23, whose low bits are then the whole part
unfoldable pub guessed : Float → Float → Float → ℕ
guessed slope shift v = to_bits binary32 (add binary32 (add binary32 (mul binary32 v slope) shift) (of_bits binary32 0x4B00_0000)) % 256

-- every byte of the table is guessed right
unfoldable pub guesses : List Float → List Float → List ℕ → Bool
guesses slope shift t = all 768 (λ i. eqb (guessed (get_or slope (i / 256) nan) (get_or shift (i / 256) nan) (of_bits binary32 (get_or t i 0))) (i % 256))

-- by a table k: byte b + 1 of channel c lies beyond v, above it in a channel that rises, and below it in one that falls
unfoldable pub beyond : (ℕ → ℕ → ℕ) → ℕ → Float → ℕ → Bool
beyond k c v b = cond (lt (value k c 0) (value k c 255)) (lt v (value k c (suc b))) (lt (value k c (suc b)) v)

-- where halving ends between low and high, in at most n turns: each goes on in the half below or above the middle
unfoldable pub halving : (ℕ → Bool) → ℕ → ℕ → ℕ → ℕ
halving f zero low high = low
halving f (suc n) low high = cond (ltb low high) (cond (f ((low + high) / 2)) (halving f n low ((low + high) / 2)) (halving f n ((low + high) / 2 + 1) high)) low

unfoldable pub halved : (ℕ → ℕ → ℕ) → ℕ → Float → ℕ
halved k c v = halving (beyond k c v) 255 0 255

-- in any channel with one slope and one shift, and in each with its own
abbrev pub guessed_with : Float → Float → ℕ → Float → ℕ
guessed_with slope shift c v = guessed slope shift v

abbrev pub guessed_by : List Float → List Float → ℕ → Float → ℕ
guessed_by slope shift c v = guessed (get_or slope c nan) (get_or shift c nan) v

unfoldable pub spotted : Way → (ℕ → ℕ → ℕ) → ℕ → Float → ℕ
spotted (Guess slope shift) k c v = cond (ltb c 3) (guessed_by slope shift c v) 0
spotted Halve k c v = cond (ltb c 3) (halved k c v) 0

-- what g spots is held to the pattern b: the byte where k has the pattern there, and none where not
unfoldable pub tried : (ℕ → ℕ → ℕ) → (ℕ → Float → ℕ) → ℕ → ℕ → Option ℕ
tried k g c b = cond (ltb c 3 && eqb (k c (g c (of_bits binary32 b))) b) (Some (g c (of_bits binary32 b))) None

-- a byte, and 256 where there is none
abbrev pub or_none : Option ℕ → ℕ
or_none None = 256
or_none (Some b) = b

-- 255 times each of three numbers; 0x437F_0000 is 255
abbrev pub scaled : List Float → List Float
scaled l = mul binary32 (of_bits binary32 0x437F_0000) (get_or l 0 nan) ∷ mul binary32 (of_bits binary32 0x437F_0000) (get_or l 1 nan) ∷ mul binary32 (of_bits binary32 0x437F_0000) (get_or l 2 nan) ∷ []

unfoldable pub way_of : List ℕ → List Float → List Float → Way
way_of t mean deviation = cond (guesses (scaled deviation) (scaled mean) t) (Guess (scaled deviation) (scaled mean)) Halve

-- g spots every byte of an allowed table t
pub record Spots (t : List ℕ) (g : ℕ → Float → ℕ) : Type 0 where
  pub allowed : channels_allowed (value (entry t)) ≡ true
  pub low : (c : ℕ) (v : Float) → g c v < 256
  pub right : (c b : ℕ) → c < 3 → b < 256 → g c (value (entry t) c b) ≡ b
