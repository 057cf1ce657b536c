-- What is printed is read back: decimals, hex digits, lines and rows. Assumes nothing.
use mathlib.Core.Path.{◌≡◌, refl, sym, ap, ◌∙◌}
use mathlib.Core.Bool.{Bool, true, false, cond}
use mathlib.Core.List.{List, [], ◌∷◌, ◌++◌, append_assoc, append-nil}
use Rattle.std.specs.Prelude.{Option, None, Some}
use Prim.Native.Nat.{ℕ, zero, suc, ◌+◌, ◌-◌, ◌*◌, ◌/◌, ◌%◌, ◌≤◌, ◌<◌}
use native.Mathlib.Nat.{suc-mul, zero-mul}
use native.Mathlib.Omega.{arith}
use native.Mathlib.Decide.{dec_lt}
use borrow.Author.Tests.{eq-eqb, ne_eqb, lt-ltb, le-ltb, le-leb, lt-leb, ltb-true, ltb-false}
use lib.Dec.{ltb}
use lib.ListN.{length, get_or, take, drop, length-append, length-drop}
use lib.Seq.{take-add, take_all, length-take-le}
use Rattle.buffers.proofs.Lists.{fit}
use Rattle.buffers.specs.Rows as B
use Rattle.buffers.specs.Region.{region}
use Rattle.buffers.specs.Lent.{Bytes}
use Rattle.unpatch_form.specs.Words.{word, same, onto, pieces, ◌>>=◌, joined}
use Rattle.unpatch_form.specs.Decimal.{is_digit, digits_from, decimal}
use Rattle.unpatch_form.specs.Hex.{nibble, pair, hex_pairs}
use Rattle.unpatch_text.specs.Print.{last_digits, decimal_text, glyph, hex_text, row_line, row_lines}
use Rattle.unpatch_form.specs.Form.{fields, lines, read_row, read_rows}
use Rattle.unpatch_form.proofs.Decimals.{decimal-one, decimal-more}
use Rattle.unpatch_form.proofs.Hexes.{hex-some}
use Rattle.unpatch_text.proofs.Writes.{digits-one, digits_more, length-hex}
use Rattle.unpatch_form.proofs.Fields.{some-piece}
use Rattle.unpatch_form.proofs.Pieces.{joined-nil, joined-joined}

-- ---- pieces
-- no element is s
abbrev Free : ℕ → List ℕ → Type 0
Free s l = (k : ℕ) → get_or l k (suc s) ≡ s → ⊥

free-append : (s : ℕ) (xs ys : List ℕ) → Free s xs → Free s ys → Free s (xs ++ ys)
free-append s [] ys a b k = b k
free-append s (x ∷ xs) ys a b zero = a zero
free-append s (x ∷ xs) ys a b (suc k) = free-append s xs ys (λ i. a (suc i)) b k

free-cons : (s x : ℕ) (xs : List ℕ) → (x ≡ s → ⊥) → Free s xs → Free s (x ∷ xs)
free-cons s x xs n a zero = n
free-cons s x xs n a (suc k) = a k

free-nil : (s : ℕ) → Free s []
free-nil s k e = omega arith

-- a piece, the separator, and the rest
piece_cut : (s : ℕ) (f rest : List ℕ) → Free s f → pieces s (f ++ (s ∷ rest)) ≡ f ∷ pieces s rest
unfolding pieces onto
piece_cut s [] rest n = simp (eq-eqb s s refl)
piece_cut s (b ∷ f) rest n = simp (ne_eqb b s (n zero), piece_cut s f rest (λ i. n (suc i)))

piece-last : (s : ℕ) (f : List ℕ) → Free s f → pieces s f ≡ f ∷ []
unfolding pieces onto
piece-last s [] n = refl
piece-last s (b ∷ f) n = simp (ne_eqb b s (n zero), piece-last s f (λ i. n (suc i)))

-- ---- decimals
free-digits : (s k n : ℕ) → s < 48 → Free s (last_digits k n)
unfolding last_digits
free-digits s zero n h = free-nil s
free-digits s (suc k) n h = go (ltb n 10) (free-digits s k (n / 10) h)
  where
    go : (t : Bool) → Free s (last_digits k (n / 10)) → Free s (cond t ((48 + n) ∷ []) (last_digits k (n / 10) ++ ((48 + n % 10) ∷ [])))
    go true r = free-cons s (48 + n) [] (λ e. omega arith) (free-nil s)
    go false r = free-append s (last_digits k (n / 10)) ((48 + n % 10) ∷ []) r (free-cons s (48 + n % 10) [] (λ e. omega arith) (free-nil s))

digits_append : (n : ℕ) (xs ys : List ℕ) → digits_from n (xs ++ ys) ≡ (digits_from n xs >>= λ m. digits_from m ys)
unfolding digits_from
digits_append n [] ys = refl
digits_append n (x ∷ xs) ys = go (is_digit x) (digits_append (n * 10 + (x - 48)) xs ys)
  where
    go : (t : Bool) → digits_from (n * 10 + (x - 48)) (xs ++ ys) ≡ (digits_from (n * 10 + (x - 48)) xs >>= λ m. digits_from m ys)
        → cond t (digits_from (n * 10 + (x - 48)) (xs ++ ys)) None ≡ (cond t (digits_from (n * 10 + (x - 48)) xs) None >>= λ m. digits_from m ys)
    go true e = e
    go false e = refl

one-digit : (n d : ℕ) → d < 10 → digits_from n ((48 + d) ∷ []) ≡ Some (n * 10 + d)
unfolding digits_from
one-digit n d h =
    let e : 48 + d - 48 ≡ d = omega arith in
    rw (le-leb 48 (48 + d) (omega arith), le-leb (48 + d) 57 (omega arith), e) refl

digits-back : (k n : ℕ) → n < k → digits_from 0 (last_digits k n) ≡ Some n
unfolding last_digits
digits-back zero n h = absurd (omega arith)
digits-back (suc k) n h = go (ltb n 10) refl (λ l. digits-back k (n / 10) (omega arith))
  where
    go : (t : Bool) → ltb n 10 ≡ t → (10 ≤ n → digits_from 0 (last_digits k (n / 10)) ≡ Some (n / 10)) → digits_from 0 (cond t ((48 + n) ∷ []) (last_digits k (n / 10) ++ ((48 + n % 10) ∷ []))) ≡ Some n
    go true e r = let z : 0 * 10 + n ≡ n = omega arith in one-digit 0 n (ltb-true n 10 e) ∙ ap {B = Option ℕ} Some z
    go false e r =
        let z : n / 10 * 10 + n % 10 ≡ n = omega arith in
        digits_append 0 (last_digits k (n / 10)) ((48 + n % 10) ∷ []) ∙ rw (r (ltb-false n 10 e)) (one-digit (n / 10) (n % 10) (omega arith) ∙ ap {B = Option ℕ} Some z)

-- the first of several digits is not 0
leads : (k n : ℕ) → n < k → 1 ≤ n → (get_or (last_digits k n) 0 0 ≡ 48 → ⊥) × (1 ≤ length (last_digits k n))
unfolding last_digits
leads zero n h l = absurd (omega arith)
leads (suc k) n h l = go (ltb n 10) refl (λ a b. leads k (n / 10) a b)
  where
    front : (xs : List ℕ) (x : ℕ) → ((get_or xs 0 0 ≡ 48 → ⊥) × (1 ≤ length xs)) → (get_or (xs ++ (x ∷ [])) 0 0 ≡ 48 → ⊥) × (1 ≤ length (xs ++ (x ∷ [])))
    front [] x r = absurd (omega (arith, r.1))
    front (y ∷ ys) x r = (r.0, omega arith)

    go : (t : Bool) → ltb n 10 ≡ t → (n / 10 < k → 1 ≤ n / 10 → (get_or (last_digits k (n / 10)) 0 0 ≡ 48 → ⊥) × (1 ≤ length (last_digits k (n / 10))))
        → (get_or (cond t ((48 + n) ∷ []) (last_digits k (n / 10) ++ ((48 + n % 10) ∷ []))) 0 0 ≡ 48 → ⊥) × (1 ≤ length (cond t ((48 + n) ∷ []) (last_digits k (n / 10) ++ ((48 + n % 10) ∷ []))))
    go true e r = ((λ z. omega arith), omega arith)
    go false e r = let f = ltb-false n 10 e in front (last_digits k (n / 10)) (48 + n % 10) (r (omega arith) (omega arith))

pub decimal-back : (n : ℕ) → decimal (decimal_text n) ≡ Some n
decimal-back n = go (dec_lt n 10)
  where
    go : Dec (n < 10) → decimal (decimal_text n) ≡ Some n
    go (yes h) = decimal-one (decimal_text n) (ap length (digits-one n h)) ∙ digits-back (suc n) n (omega arith)
    go (no h) =
        let d = digits_more n (omega arith) in
        let a = leads (suc (n / 10)) (n / 10) (omega arith) (omega arith) in
        decimal-more (decimal_text n) (omega (arith, ap length d, length-append (decimal_text (n / 10)) ((48 + n % 10) ∷ []), a.1)) (leads (suc n) n (omega arith) (omega arith)).0 ∙ digits-back (suc n) n (omega arith)

-- ---- hex digits
nibble-back : (d : ℕ) → d < 16 → nibble (glyph d) ≡ Some d
unfolding nibble
nibble-back d h = go (dec_lt d 10)
  where
    go : Dec (d < 10) → nibble (glyph d) ≡ Some d
    go (yes l) =
        let e : 48 + d - 48 ≡ d = omega arith in
        rw (lt-ltb d 10 l, le-ltb (48 + d) 48 (omega arith), le-leb (48 + d) 57 (omega arith), e) refl
    go (no l) =
        let e : 87 + d - 87 ≡ d = omega arith in
        rw (le-ltb d 10 (omega arith), le-ltb (87 + d) 48 (omega arith), lt-leb (87 + d) 57 (omega arith), le-ltb (87 + d) 97 (omega arith), le-leb (87 + d) 102 (omega arith), e) refl

pub hex-back : (bs : List ℕ) → Bytes bs → hex_pairs (hex_text bs) ≡ Some bs
unfolding hex_pairs hex_text pair
hex-back [] h = refl
hex-back (b ∷ bs) h =
    let k : b < 256 = h zero in
    let e : b / 16 * 16 + b % 16 ≡ b = omega arith in
    rw (nibble-back (b / 16) (omega arith), nibble-back (b % 16) (omega arith), e, hex-back bs (λ i. h (suc i))) refl

free-glyph : (s d : ℕ) → s < 48 → glyph d ≡ s → ⊥
free-glyph s d h = go (ltb d 10)
  where
    go : (t : Bool) → cond t (48 + d) (87 + d) ≡ s → ⊥
    go true e = omega arith
    go false e = omega arith

free-hex : (s : ℕ) (bs : List ℕ) → s < 48 → Free s (hex_text bs)
unfolding hex_text
free-hex s [] h = free-nil s
free-hex s (b ∷ bs) h = free-cons s (glyph (b / 16)) (glyph (b % 16) ∷ hex_text bs) (free-glyph s (b / 16) h) (free-cons s (glyph (b % 16)) (hex_text bs) (free-glyph s (b % 16) h) (free-hex s bs h))

-- ---- a row, and the rows
-- the row without its newline
abbrev body : ℕ → List ℕ → List ℕ
body y bs = word "row" ++ (9 ∷ (decimal_text y ++ (9 ∷ hex_text bs)))

-- the word of a row has no byte that parts
free-word : (s : ℕ) → s < 48 → Free s (word "row")
free-word s h = free-cons s 114 (111 ∷ (119 ∷ [])) (λ e. omega arith) (free-cons s 111 (119 ∷ []) (λ e. omega arith) (free-cons s 119 [] (λ e. omega arith) (free-nil s)))

free-body : (y : ℕ) (bs : List ℕ) → Free 10 (body y bs)
free-body y bs =
    free-append 10 (word "row") (9 ∷ (decimal_text y ++ (9 ∷ hex_text bs))) (free-word 10 (omega arith))
    (free-cons 10 9 (decimal_text y ++ (9 ∷ hex_text bs)) (λ e. omega arith)
    (free-append 10 (decimal_text y) (9 ∷ hex_text bs) (free-digits 10 (suc y) y (omega arith)) (free-cons 10 9 (hex_text bs) (λ e. omega arith) (free-hex 10 bs (omega arith)))))

body-fields : (y : ℕ) (bs : List ℕ) → fields (body y bs) ≡ word "row" ∷ (decimal_text y ∷ (hex_text bs ∷ []))
body-fields y bs =
    piece_cut 9 (word "row") (decimal_text y ++ (9 ∷ hex_text bs)) (free-word 9 (omega arith))
    ∙ ap (λ (ps : List (List ℕ)). word "row" ∷ ps) (piece_cut 9 (decimal_text y) (hex_text bs) (free-digits 9 (suc y) y (omega arith)) ∙ ap (λ (ps : List (List ℕ)). decimal_text y ∷ ps) (piece-last 9 (hex_text bs) (free-hex 9 bs (omega arith))))

row_back : (y : ℕ) (bs : List ℕ) → Bytes bs → 1 ≤ length bs → read_row y (body y bs) ≡ Some bs
unfolding read_row same
row_back y bs h l =
    let some-hex : length (hex_text bs) ≡ 0 → ⊥ = λ e. omega (arith, e, length-hex bs) in
    rw (body-fields y bs, decimal-back y, hex-some (hex_text bs) some-hex, hex-back bs h, eq-eqb y y refl) refl

row-line : (y : ℕ) (bs rest : List ℕ) → row_line y bs ++ rest ≡ body y bs ++ (10 ∷ rest)
unfolding row_line
row-line y bs rest = simp (append_assoc (decimal_text y), append_assoc (hex_text bs))

-- the next row, and what is read behind it
row_next : (y : ℕ) (bs rest : List ℕ) → Bytes bs → 1 ≤ length bs → read_rows y (lines (row_line y bs ++ rest)) ≡ joined bs (read_rows (suc y) (lines rest))
unfolding read_rows
row_next y bs rest h l =
    let r = some-piece 10 rest in
    rw (row-line y bs rest, piece_cut 10 (body y bs) rest (free-body y bs), r.2, row_back y bs h l) refl

module _ (g : ℕ → List ℕ) where
  rows_next : (h : ℕ) (rest : List ℕ) → ((y : ℕ) → y < h → Bytes (g y) × (1 ≤ length (g y))) → read_rows 0 (lines (B.rows h (λ y. row_line y (g y)) ++ rest)) ≡ joined (B.rows h g) (read_rows h (lines rest))
  unfolding B.rows
  rows_next zero rest a = sym (joined-nil (read_rows 0 (lines rest)))
  rows_next (suc h) rest a =
      let e : (B.rows h (λ y. row_line y (g y)) ++ row_line h (g h)) ++ rest ≡ B.rows h (λ y. row_line y (g y)) ++ (row_line h (g h) ++ rest) = append_assoc (B.rows h (λ y. row_line y (g y))) (row_line h (g h)) rest in
      let b = a h (omega arith) in
      rw e
      (rows_next h (row_line h (g h) ++ rest) (λ y l. a y (omega arith))
      ∙ ap (joined (B.rows h g)) (row_next h (g h) rest b.0 b.1)
      ∙ joined-joined (B.rows h g) (g h) (read_rows (suc h) (lines rest)))

-- pieces of n elements, joined
pub regions-joined : (bs : List ℕ) (n h : ℕ) → B.rows h (λ y. region bs (y * n) n) ≡ take (h * n) bs
unfolding B.rows
regions-joined bs n zero = ap (λ (k : ℕ). take k bs) (sym (zero-mul n))
regions-joined bs n (suc h) = rw (regions-joined bs n h, suc-mul h n) (sym (take-add (h * n) n bs))

bytes_take : (n : ℕ) (l : List ℕ) → Bytes l → Bytes (take n l)
bytes_take zero l h k = omega arith
bytes_take (suc n) [] h k = omega arith
bytes_take (suc n) (x ∷ xs) h zero = h zero
bytes_take (suc n) (x ∷ xs) h (suc k) = bytes_take n xs (λ i. h (suc i)) k

bytes_drop : (n : ℕ) (l : List ℕ) → Bytes l → Bytes (drop n l)
bytes_drop zero l h k = h k
bytes_drop (suc n) [] h k = omega arith
bytes_drop (suc n) (x ∷ xs) h k = bytes_drop n xs (λ i. h (suc i)) k

-- the rows of a picture are read back as its bytes, joined
pub rows_back : (h n : ℕ) (bs : List ℕ) → Bytes bs → 1 ≤ n → length bs ≡ h * n → read_rows 0 (lines (row_lines h n bs)) ≡ Some bs
unfolding read_rows pieces
rows_back h n bs b l e =
    let g : ℕ → List ℕ = λ y. region bs (y * n) n in
    let f : B.rows h (λ y. row_line y (g y)) ++ [] ≡ row_lines h n bs = append-nil (row_lines h n bs) in
    let j : B.rows h g ≡ bs = regions-joined bs n h ∙ take_all (h * n) bs (omega (arith, e)) in
    let k = rows_next g h [] (λ y hy. (bytes_take n (drop (y * n) bs) (bytes_drop (y * n) bs b), omega (arith, length-take-le n (drop (y * n) bs) (omega (arith, length-drop (y * n) bs, fit n hy, e))))) in
    ap (λ (t : List ℕ). read_rows 0 (lines t)) (sym f) ∙ k ∙ ap (λ (l : List ℕ). Some (l ++ [])) j ∙ ap {B = Option (List ℕ)} Some (append-nil bs)
