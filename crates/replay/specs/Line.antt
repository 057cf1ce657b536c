-- The numbers of a line, with a tab between two. Assumes nothing.
use Rattle.std.specs.Prelude.{ℕ, zero, suc, ◌-◌, Bool, true, false, cond, Option, Some, None, List, [], ◌∷◌, length, take, ◌==◌, nat_lt, slice_index}
use Rattle.replay.specs.Decimal.{number_of}
use Rattle.replay.specs.Pieces.{pieces}

-- the byte after a number that n others follow: a tab, and a newline after the last
unfoldable pub stop_of : ℕ → ℕ
stop_of n = cond (nat_lt 0 n) 9 10

-- a decimal and the byte after it
unfoldable pub field_of : ℕ → List ℕ → Option ℕ
field_of stop s =
    cond (length s == 0) None
    (cond (slice_index s (length s - 1) == stop) (number_of (take (length s - 1) s))
    None)

-- the numbers that a line starts with, and whether it has as many as are asked for and nothing else
pub record Read : Type 0 where
  pub whole : Bool
  pub list : List ℕ

abbrev pub none : Read
none = record { whole = false; list = [] }

-- one more in front
unfoldable pub join : Option ℕ → Read → Read
join None r = none
join (Some n) r = record { whole = r.whole; list = n ∷ r.list }

-- n fields and no more
unfoldable pub fields : ℕ → List (List ℕ) → Read
fields zero [] = record { whole = true; list = [] }
fields zero (p ∷ ps) = none
fields (suc n) [] = none
fields (suc n) (p ∷ ps) = join (field_of (stop_of n) p) (fields n ps)

abbrev pub read_of : ℕ → List ℕ → Read
read_of n line = fields n (pieces 9 line)
