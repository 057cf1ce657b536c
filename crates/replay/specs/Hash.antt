-- A hash of 64 bits: two remainders side by side. Assumes nothing.
use Rattle.std.specs.Prelude.{ℕ, ◌+◌, ◌*◌, ◌%◌, List, [], ◌∷◌, to_bits, Float}
use Rattle.std.specs.Float.{binary32}
use Rattle.replay.specs.declared.hash.Lanes.{Lanes}

-- each lane times its factor, and the word, modulo its prime
abbrev pub added : Lanes → ℕ → Lanes
added h x = record { first = (h.first * 2147483629 + x) % 4294967291; second = (h.second * 2147483587 + x) % 4294967279 }

abbrev pub start : Lanes
start = record { first = 1; second = 1 }

-- both in one number
abbrev pub summed : Lanes → ℕ
summed h = h.first * 4294967296 + h.second

-- of values that count by f
unfoldable pub lanes : {A : Type 0} → (A → ℕ) → Lanes → List A → Lanes
lanes f h [] = h
lanes f h (x ∷ xs) = lanes f (added h (f x)) xs

abbrev pub byte_hash : List ℕ → ℕ
byte_hash s = summed (lanes (λ x. x) start s)

-- a word of 32 bits counts as a byte does
abbrev pub word_hash : List ℕ → ℕ
word_hash s = byte_hash s

abbrev pub float_hash : List Float → ℕ
float_hash s = summed (lanes (to_bits binary32) start s)
