-- A line that is read whole fills the buffer. Assumes nothing.
use Rattle.std.proofs.Common.{◌≡◌, ℕ, zero, suc, Bool, true, false, List, [], ◌∷◌, length, sym, refl, ap, ◌∙◌, append-nil, arith}
use lib.Seq.{drop-length}
use Rattle.buffers.specs.Region.{over}
use Rattle.std.specs.Prelude.{Option, Some, None}
use Rattle.replay.specs.Line.{Read, stop_of, field_of, join, fields, read_of}

length-join : (x : Option ℕ) (r : Read) (n : ℕ) → (r.whole ≡ true → length r.list ≡ n) → (join x r).whole ≡ true → length (join x r).list ≡ suc n
unfolding join
length-join None r n f e = let z : ◌≡◌ {A = ℕ} 0 1 = cc in absurd (omega arith)
length-join (Some k) r n f e = ap suc (f e)

length_fields : (n : ℕ) (ps : List (List ℕ)) → (fields n ps).whole ≡ true → length (fields n ps).list ≡ n
unfolding fields
length_fields zero [] e = refl
length_fields zero (p ∷ ps) e = let z : ◌≡◌ {A = ℕ} 0 1 = cc in absurd (omega arith)
length_fields (suc n) [] e = let z : ◌≡◌ {A = ℕ} 0 1 = cc in absurd (omega arith)
length_fields (suc n) (p ∷ ps) e = length-join (field_of (stop_of n) p) (fields n ps) n (length_fields n ps) e

over-all : (l old : List ℕ) → length l ≡ length old → over l old ≡ l
over-all l old e = rw (e, drop-length old) (append-nil l)

-- a reader's answer t and the numbers v that it has put down, over n that stood there
pub read_whole : (n : ℕ) (line old v : List ℕ) (t : Bool)
    → length old ≡ n
    → t ≡ (read_of n line).whole
    → v ≡ over (read_of n line).list old
    → t ≡ true
    → read_of n line ≡ record { whole = true; list = v }
read_whole n line old v t h e f g =
    let w : (read_of n line).whole ≡ true = sym e ∙ g in
    let k = over-all (read_of n line).list old (length_fields _ _ w ∙ sym h) in
    rw (f, k, ← w)
