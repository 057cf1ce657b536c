-- A text cut behind each byte of one kind. Assumes nothing.
use Rattle.std.specs.Prelude.{ℕ, suc, cond, List, [], ◌∷◌, ◌==◌}

-- b in front of the first piece
unfoldable pub onto : ℕ → List (List ℕ) → List (List ℕ)
onto b [] = (b ∷ []) ∷ []
onto b (p ∷ ps) = (b ∷ p) ∷ ps

-- each piece with the byte that ends it, which the last may lack
unfoldable pub pieces : ℕ → List ℕ → List (List ℕ)
pieces stop [] = []
pieces stop (b ∷ bs) = cond (b == stop) ((b ∷ []) ∷ pieces stop bs) (onto b (pieces stop bs))

-- how many bytes the first piece has; 0 where there is none
unfoldable pub piece_len : ℕ → List ℕ → ℕ
piece_len stop [] = 0
piece_len stop (b ∷ bs) = cond (b == stop) 1 (suc (piece_len stop bs))
