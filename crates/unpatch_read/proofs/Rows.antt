-- Laws of the rows that are read, line by line. Assumes nothing.
use mathlib.Core.Path.{◌≡◌, refl, sym, ap, ◌∙◌}
use mathlib.Core.List.{List, [], ◌∷◌}
use Rattle.std.specs.Prelude.{Option, None, Some}
use Prim.Native.Nat.{ℕ, suc, ◌+◌, ◌<◌}
use native.Mathlib.Numerals.{add-one}
use native.Mathlib.Omega.{arith}
use lib.ListN.{length, take, drop}
use lib.Seq.{take-add, drop-drop}
use Rattle.buffers.specs.Region.{region}
use Rattle.unpatch_form.specs.Words.{pieces, ◌>>=◌, joined}
use Rattle.unpatch_form.specs.Form.{lines, read_row, read_rows}
use Rattle.unpatch_form.specs.inner.Steps.{until}
use Rattle.unpatch_form.proofs.Pieces.{pieces-cut, pieces-one, joined-joined}
use Rattle.unpatch_form.proofs.Fields.{some-piece}

-- a line without its newline
pub rows-open : (i : ℕ) (l : List ℕ) → 0 < length l → until 10 l ≡ length l → read_rows i (lines l) ≡ None
unfolding read_rows
rows-open i [] h e = absurd (omega arith)
rows-open i (b ∷ bs) h e = rw (pieces-one 10 (b ∷ bs) e) refl

-- a line, and those behind it
pub rows_cut : (i : ℕ) (l : List ℕ) → until 10 l < length l → read_rows i (lines l) ≡ (read_row i (take (until 10 l) l) >>= λ bs. joined bs (read_rows (suc i) (lines (drop (suc (until 10 l)) l))))
unfolding read_rows
rows_cut i l h =
    let r = some-piece 10 (drop (suc (until 10 l)) l) in
    rw (pieces-cut 10 l h, r.2) refl

-- no line, and none but the empty end
pub rows_none : (i : ℕ) → read_rows i [] ≡ None
unfolding read_rows
rows_none i = refl

pub rows_end : (i : ℕ) → read_rows i (lines []) ≡ Some []
unfolding read_rows pieces
rows_end i = refl

-- k bytes more
pub joined-more : (old new : List ℕ) (n k : ℕ) (o : Option (List ℕ)) → take n new ≡ take n old → joined (take n old) (joined (region new n k) o) ≡ joined (take (n + k) new) o
joined-more old new n k o e = rw (← e, joined-joined, ← take-add) refl

-- the row of u bytes from `from` on is no row
pub rows-bad : (text : List ℕ) (from i u : ℕ) → u ≡ until 10 (drop from text) → u < length (drop from text) → read_row i (take u (drop from text)) ≡ None → read_rows i (lines (drop from text)) ≡ None
rows-bad text from i u f h e = rows_cut i (drop from text) (rw f at h) ∙ rw (← f, e) refl

-- it has the k bytes that stand behind the n of the rows before it
pub rows-turn : (text old new : List ℕ) (from i n u k : ℕ) → u ≡ until 10 (drop from text) → u < length (drop from text) → read_row i (take u (drop from text)) ≡ Some (region new n k) → take n new ≡ take n old
    → joined (take n old) (read_rows i (lines (drop from text))) ≡ joined (take (n + k) new) (read_rows (i + 1) (lines (drop (from + u + 1) text)))
rows-turn text old new from i n u k f h e t =
    let d : from + suc u ≡ from + u + 1 = omega arith in
    let g : read_rows i (lines (drop from text)) ≡ joined (region new n k) (read_rows (suc i) (lines (drop (suc u) (drop from text)))) = rows_cut i (drop from text) (rw f at h) ∙ rw (← f, e) refl in
    ap (joined (take n old)) g
    ∙ joined-more old new n k (read_rows (suc i) (lines (drop (suc u) (drop from text)))) t
    ∙ ap (λ (l : List ℕ). joined (take (n + k) new) (read_rows (suc i) (lines l))) (drop-drop (suc u) from text ∙ ap (λ (j : ℕ). drop j text) d)
    ∙ ap (λ (j : ℕ). joined (take (n + k) new) (read_rows j (lines (drop (from + u + 1) text)))) (sym (add-one i))
