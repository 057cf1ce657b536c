-- The form of the input: its lines, their fields, and the limits. `none` is what is outside it. Assumes nothing.
use Rattle.std.specs.Prelude.{cond, List, [], ◌∷◌, ℕ, suc, ◌*◌, eqb, leb, length}
use Rattle.std.specs.Prelude.{Option, None, Some}
use Rattle.unpatch_form.specs.Words.{word, pieces, ◌>>=◌, one_piece, end, joined, behind}
use Rattle.unpatch_form.specs.Decimal.{decimal, limited}
use Rattle.unpatch_form.specs.Hex.{hex_bytes}

-- what a text in the form says
pub record Request : Type 0 where
  pub patch : ℕ
  pub merge : ℕ
  pub image : ℕ
  pub height : ℕ
  pub width : ℕ
  pub rgb : List ℕ

-- tab-parted
abbrev pub fields : List ℕ → List (List ℕ)
fields l = pieces 9 l

abbrev pub lines : List ℕ → List (List ℕ)
lines t = pieces 10 t

-- no number but a row's index is above 64
abbrev pub small : List ℕ → Option ℕ
small f = limited 64 f

abbrev pub as_pair : ℕ → ℕ → Option (ℕ × ℕ)
as_pair a b = Some (a, b)

abbrev pub with_two : ℕ → ℕ × ℕ → Option (ℕ × ℕ × ℕ)
with_two a r = Some (a, r.0, r.1)

-- exactly two numbers
abbrev pub two : List (List ℕ) → Option (ℕ × ℕ)
two = one_piece small λ a. one_piece small λ b. end (as_pair a b)

-- exactly three
abbrev pub three : List (List ℕ) → Option (ℕ × ℕ × ℕ)
three = one_piece small λ a fs. two fs >>= with_two a

-- `vision`, patch, merge, image size; patch × merge is at most 64 too
unfoldable pub read_vision : List ℕ → Option (ℕ × ℕ × ℕ)
read_vision l = behind (word "vision") (fields l) >>= three >>= λ r. cond (leb (r.0 * r.1) 64) (Some r) None

-- `picture`, height, width
unfoldable pub read_picture : List ℕ → Option (ℕ × ℕ)
read_picture l = behind (word "picture") (fields l) >>= two

-- a row's index i and its bytes
abbrev pub row_fields : ℕ → List (List ℕ) → Option (List ℕ)
row_fields i = one_piece decimal λ k. one_piece hex_bytes λ bs. end (cond (eqb k i) (Some bs) None)

-- `row`, index, bytes
unfoldable pub read_row : ℕ → List ℕ → Option (List ℕ)
read_row i l = behind (word "row") (fields l) >>= row_fields i

-- the rows from index i on, their bytes joined; behind the last newline is nothing
unfoldable pub read_rows : ℕ → List (List ℕ) → Option (List ℕ)
read_rows i [] = None
read_rows i ([] ∷ []) = Some []
read_rows i ((b ∷ bs) ∷ []) = None
read_rows i (l ∷ (m ∷ ms)) = read_row i l >>= λ bs. joined bs (read_rows (suc i) (m ∷ ms))

abbrev pub request_of : ℕ × ℕ × ℕ → ℕ × ℕ → List ℕ → Option Request
request_of s p bs = Some (record { patch = s.0; merge = s.1; image = s.2; height = p.0; width = p.1; rgb = bs })

-- the lines behind the first, which has the settings s
abbrev pub pictured : ℕ × ℕ × ℕ → List (List ℕ) → Option Request
pictured s = one_piece read_picture λ p ls. read_rows 0 ls >>= request_of s p

abbrev pub request : List (List ℕ) → Option Request
request = one_piece read_vision λ s. pictured s

-- at most 48 KiB, which are 49,152 bytes
unfoldable pub form : List ℕ → Option Request
form t = cond (leb (length t) 49152) (request (lines t)) None
