-- Decimals without leading zeros, read. Assumes nothing.
use Rattle.std.specs.Prelude.{Bool, cond, ◌&&◌, List, [], ◌∷◌, ℕ, ◌+◌, ◌-◌, ◌*◌, eqb, leb}
use Rattle.std.specs.Prelude.{Option, None, Some}
use Rattle.unpatch_form.specs.Words.{◌>>=◌}

-- `0` to `9`
abbrev pub is_digit : ℕ → Bool
is_digit b = leb 48 b && leb b 57

-- the number of digits that follow ones for n
unfoldable pub digits_from : ℕ → List ℕ → Option ℕ
digits_from n [] = Some n
digits_from n (b ∷ bs) = cond (is_digit b) (digits_from (n * 10 + (b - 48)) bs) None

-- one or more digits, and the first of several is not 0
unfoldable pub decimal : List ℕ → Option ℕ
decimal [] = None
decimal (b ∷ []) = digits_from 0 (b ∷ [])
decimal (b ∷ (d ∷ bs)) = cond (eqb b 48) None (digits_from 0 (b ∷ (d ∷ bs)))

-- where it is at most `most`
abbrev pub up_to : ℕ → ℕ → Option ℕ
up_to most n = cond (leb n most) (Some n) None

-- a decimal of at most `most`
abbrev pub limited : ℕ → List ℕ → Option ℕ
limited most s = decimal s >>= up_to most
