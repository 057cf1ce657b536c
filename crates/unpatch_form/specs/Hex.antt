-- Bytes as pairs of lower-case hex digits, read. Assumes nothing.
use Rattle.std.specs.Prelude.{cond, List, [], ◌∷◌, ℕ, ◌+◌, ◌-◌, ◌*◌, leb, ltb}
use Rattle.std.specs.Prelude.{Option, None, Some}
use Rattle.unpatch_form.specs.Words.{◌>>=◌, joined}

-- `0` to `9` and `a` to `f`
unfoldable pub nibble : ℕ → Option ℕ
nibble b =
    cond (ltb b 48) None
    (cond (leb b 57) (Some (b - 48))
    (cond (ltb b 97) None
    (cond (leb b 102) (Some (b - 87))
    None)))

-- the byte of two digits
unfoldable pub pair : ℕ → ℕ → Option ℕ
pair a b = nibble a >>= λ x. nibble b >>= λ y. Some (x * 16 + y)

-- an even number of digits
unfoldable pub hex_pairs : List ℕ → Option (List ℕ)
hex_pairs [] = Some []
hex_pairs (a ∷ []) = None
hex_pairs (a ∷ (b ∷ bs)) = pair a b >>= λ x. joined (x ∷ []) (hex_pairs bs)

-- at least one byte
abbrev pub hex_bytes : List ℕ → Option (List ℕ)
hex_bytes [] = None
hex_bytes (a ∷ bs) = hex_pairs (a ∷ bs)
