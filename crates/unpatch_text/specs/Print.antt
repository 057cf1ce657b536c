-- The lines of the output. Assumes nothing.
use Rattle.std.specs.Prelude.{cond, List, [], ◌∷◌, ◌++◌, ℕ, zero, suc, ◌+◌, ◌*◌, ◌/◌, ◌%◌, ltb}
use Rattle.buffers.specs.Rows.{rows}
use Rattle.buffers.specs.Region.{region}
use Rattle.unpatch_form.specs.Words.{word}

-- ---- decimals and hex digits

-- the last k digits of n, or all of them where they are fewer
unfoldable pub last_digits : ℕ → ℕ → List ℕ
last_digits zero n = []
last_digits (suc k) n = let front = last_digits k (n / 10) in cond (ltb n 10) ((48 + n) ∷ []) (front ++ ((48 + n % 10) ∷ []))

-- n has at most n + 1 digits
abbrev pub decimal_text : ℕ → List ℕ
decimal_text n = last_digits (suc n) n

-- a hex digit
abbrev pub glyph : ℕ → ℕ
glyph d = cond (ltb d 10) (48 + d) (87 + d)

unfoldable pub hex_text : List ℕ → List ℕ
hex_text [] = []
hex_text (b ∷ bs) = glyph (b / 16) ∷ (glyph (b % 16) ∷ hex_text bs)

-- ---- lines

-- fields, tab-parted, ended by a newline
abbrev pub line : List (List ℕ) → List ℕ
line [] = 10 ∷ []
line (f ∷ []) = f ++ (10 ∷ [])
line (f ∷ (g ∷ gs)) = f ++ (9 ∷ line (g ∷ gs))

-- `refused` and a number, or the word `text`
unfoldable pub refused_line : ℕ → List ℕ
refused_line n = line (word "refused" ∷ (decimal_text n ∷ []))

abbrev pub outside_line : List ℕ
outside_line = line (word "refused" ∷ (word "text" ∷ []))

-- the grid's sides, and the tokens after merging
unfoldable pub grid_line : ℕ → ℕ → ℕ → List ℕ
grid_line gh gw tokens = line (word "grid" ∷ (decimal_text gh ∷ (decimal_text gw ∷ (decimal_text tokens ∷ []))))

-- a row's index and bytes
unfoldable pub row_line : ℕ → List ℕ → List ℕ
row_line y bs = line (word "row" ∷ (decimal_text y ∷ (hex_text bs ∷ [])))

-- h rows of n bytes each
abbrev pub row_lines : ℕ → ℕ → List ℕ → List ℕ
row_lines h n bs = rows h (λ y. row_line y (region bs (y * n) n))
