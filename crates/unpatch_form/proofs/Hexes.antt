-- Laws of hex digits that are read. Assumes nothing.
use mathlib.Core.Path.{◌≡◌, refl, sym, ap, ◌∙◌}
use mathlib.Core.List.{List, [], ◌∷◌, ◌++◌}
use Rattle.std.specs.Prelude.{Option, None, Some}
use Prim.Native.Nat.{ℕ, suc, ◌+◌, ◌-◌, ◌*◌, ◌<◌}
use native.Mathlib.Numerals.{add-one}
use native.Mathlib.Omega.{arith}
use lib.ListN.{length, get_or, drop, set, length-drop}
use lib.Seq.{drop-cons, drop-set-add, take-suc-set}
use Rattle.buffers.specs.Region.{region}
use Rattle.unpatch_form.specs.Words.{◌>>=◌, joined}
use Rattle.unpatch_form.specs.Hex.{pair, hex_pairs, hex_bytes}

-- the next pair of digits
pub pair-next : (s : List ℕ) (i : ℕ) → i + 1 < length s → hex_pairs (drop i s) ≡ (pair (get_or s i 0) (get_or s (i + 1) 0) >>= λ x. joined (x ∷ []) (hex_pairs (drop (i + 2) s)))
unfolding hex_pairs
pair-next s i h =
    let e : drop i s ≡ get_or s i 0 ∷ drop (i + 1) s = drop-cons s i 0 (omega arith) ∙ ap (λ (k : ℕ). get_or s i 0 ∷ drop k s) (sym (add-one i)) in
    let n : suc (i + 1) ≡ i + 2 = omega arith in
    let f : drop (i + 1) s ≡ get_or s (i + 1) 0 ∷ drop (i + 2) s = drop-cons s (i + 1) 0 h ∙ ap (λ (k : ℕ). get_or s (i + 1) 0 ∷ drop k s) n in
    rw (e, f) refl

-- an odd number of digits
pub hex-odd : (k : ℕ) (s : List ℕ) → length s ≡ 2 * k + 1 → hex_pairs s ≡ None
unfolding hex_pairs
hex-odd k [] e = absurd (omega arith)
hex-odd k (a ∷ []) e = refl
hex-odd k (a ∷ (b ∷ bs)) e = go (pair a b) (hex-odd (k - 1) bs (omega arith))
  where
    go : (o : Option ℕ) → hex_pairs bs ≡ None → (o >>= λ x. joined (x ∷ []) (hex_pairs bs)) ≡ None
    go None f = refl
    go (Some x) f = rw f refl

pub hex-empty : (s : List ℕ) → length s ≡ 0 → hex_bytes s ≡ None
hex-empty [] e = refl
hex-empty (b ∷ bs) e = absurd (omega arith)

pub hex-some : (s : List ℕ) → (length s ≡ 0 → ⊥) → hex_bytes s ≡ hex_pairs s
hex-some [] n = absurd (n refl)
hex-some (b ∷ bs) n = refl

-- a store behind the i elements from `at` on makes them one more
pub region-more : (l : List ℕ) (at i x : ℕ) → at + i < length l → region (set l (at + i) x) at (i + 1) ≡ region l at i ++ (x ∷ [])
region-more l at i x h = rw (add-one i, drop-set-add at l i x) (take-suc-set (drop at l) i x (rw length-drop (omega arith)))
