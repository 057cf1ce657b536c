-- Where the vectors of a key stand. Assumes nothing.
use Rattle.std.specs.Prelude.{cond, List, [], ◌∷◌, ℕ, eqb, Result, Ok, Err}
use Rattle.picture_limits.specs.declared.Refusal as F
use Rattle.picture_limits.specs.Refusal as R
use Rattle.pool_books.specs.declared.Held.{Held}
use Rattle.pool_books.specs.declared.Place.{Place}

-- the n floats from index at on
abbrev pub place : ℕ → ℕ → Place
place at n = record { start = at; len = n }

-- the place of the first with the key
unfoldable pub lookup : ℕ → List Held → Result Place F.Refusal
lookup k [] = Err F.Refusal.KeyUnknown
lookup k (h ∷ hs) = cond (eqb h.key k) (Ok (place h.start h.len)) (lookup k hs)

-- the paper's number of an answer, and the place that it reports: 0 and 0 of a refusal
abbrev pub found_number : Result Place F.Refusal → ℕ
found_number (Ok p) = 0
found_number (Err r) = R.number r

abbrev pub found_start : Result Place F.Refusal → ℕ
found_start (Ok p) = p.start
found_start (Err r) = 0

abbrev pub found_len : Result Place F.Refusal → ℕ
found_len (Ok p) = p.len
found_len (Err r) = 0
