-- The number that lower-case hex digits stand for. Assumes nothing.
use Rattle.std.specs.Prelude.{ℕ, ◌+◌, ◌-◌, ◌*◌, cond, Option, Some, None, List, [], ◌∷◌, leb, ltb}

-- `0` to `9` and `a` to `f`
unfoldable pub digit_of : ℕ → Option ℕ
digit_of b =
    cond (ltb b 48) None
    (cond (leb b 57) (Some (b - 48))
    (cond (ltb b 97) None
    (cond (leb b 102) (Some (b - 97 + 10))
    None)))

-- where there is a digit, on with it
unfoldable pub onward : Option ℕ → (ℕ → Option ℕ) → Option ℕ
onward None f = None
onward (Some d) f = f d

-- digits that follow ones for n
unfoldable pub word_from : ℕ → List ℕ → Option ℕ
word_from n [] = Some n
word_from n (b ∷ bs) = onward (digit_of b) (λ d. word_from (n * 16 + d) bs)

abbrev pub word_of : List ℕ → Option ℕ
word_of s = word_from 0 s
