-- The number that decimal digits stand for, below 2⁶⁴. Assumes nothing.
use Rattle.std.specs.Prelude.{ℕ, ◌+◌, ◌-◌, ◌*◌, cond, Option, Some, None, List, [], ◌∷◌, nat_lt}

-- n and one more digit, `0` to `9`
unfoldable pub push : ℕ → ℕ → Option ℕ
push n b =
    cond (nat_lt b 48) None
    (cond (nat_lt 57 b) None
    (cond (nat_lt (n * 10 + (b - 48)) 18446744073709551616) (Some (n * 10 + (b - 48)))
    None))

-- where there is a number, on with it
unfoldable pub onward : Option ℕ → (ℕ → Option ℕ) → Option ℕ
onward None f = None
onward (Some n) f = f n

-- digits that follow those of n
unfoldable pub number_from : List ℕ → ℕ → Option ℕ
number_from [] n = Some n
number_from (b ∷ bs) n = onward (push n b) (number_from bs)

-- at least one digit
unfoldable pub number_of : List ℕ → Option ℕ
number_of [] = None
number_of (b ∷ bs) = number_from (b ∷ bs) 0
