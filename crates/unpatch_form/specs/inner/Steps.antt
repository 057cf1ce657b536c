-- What the functions answer: where a piece ends, and what an answer stands for. Assumes nothing.
use Rattle.std.specs.Prelude.{cond, List, [], ◌∷◌, ℕ, zero, suc, eqb, drop}
use Rattle.std.specs.Prelude.{Option, None, Some}
use Rattle.unpatch_form.specs.Form.{fields}

-- where the first s stands; the length, where there is none
unfoldable pub until : ℕ → List ℕ → ℕ
until s [] = zero
until s (b ∷ bs) = cond (eqb b s) zero (suc (until s bs))

-- the number; 0, where there is none
abbrev pub value_of : Option ℕ → ℕ
value_of (Some n) = n
value_of None = 0

-- the fields from there on
abbrev pub fields_from : Option ℕ → List ℕ → Option (List (List ℕ))
fields_from (Some at) l = Some (fields (drop at l))
fields_from None l = None
