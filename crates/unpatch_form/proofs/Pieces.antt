-- Laws of `until`, `same`, `pieces` and `joined`. Assumes nothing.
use mathlib.Core.Path.{◌≡◌, refl, sym, ap}
use mathlib.Core.Bool.{Bool, true, false, cond, ◌&&◌}
use mathlib.Core.List.{List, [], ◌∷◌, ◌++◌, append_assoc}
use Rattle.std.specs.Prelude.{Option, None, Some}
use Prim.Native.Nat.{ℕ, zero, suc, ◌+◌, ◌≤◌, ◌<◌}
use native.Mathlib.Numerals.{add-one}
use native.Mathlib.Omega.{arith}
use borrow.Author.Tests.{eq-eqb, ne_eqb}
use lib.Dec.{eqb}
use lib.ListN.{length, get_or, take, drop}
use lib.Seq.{drop-cons}
use Rattle.unpatch_form.specs.Words.{onto, pieces, same, joined}
use Rattle.unpatch_form.specs.inner.Steps.{until}

-- ---- where a byte stands
pub until-le : (s : ℕ) (l : List ℕ) → until s l ≤ length l
unfolding until
until-le s [] = omega arith
until-le s (b ∷ bs) = go (eqb b s) (until-le s bs)
  where
    go : (t : Bool) → until s bs ≤ length bs → cond t zero (suc (until s bs)) ≤ suc (length bs)
    go true h = omega arith
    go false h = omega arith

pub until-here : (s : ℕ) (l : List ℕ) (i : ℕ) → i < length l → get_or l i 0 ≡ s → until s (drop i l) ≡ 0
unfolding until
until-here s l i h e = rw (drop-cons l i 0) (simp (eq-eqb _ _ e))

pub until-later : (s : ℕ) (l : List ℕ) (i : ℕ) → i < length l → (get_or l i 0 ≡ s → ⊥) → until s (drop i l) ≡ suc (until s (drop (i + 1) l))
unfolding until
until-later s l i h n = rw (add-one i, drop-cons l i 0) (simp (ne_eqb _ _ n))

-- ---- pieces
-- up to the first separator, and the pieces behind it
pub pieces-cut : (s : ℕ) (l : List ℕ) → until s l < length l → pieces s l ≡ take (until s l) l ∷ pieces s (drop (suc (until s l)) l)
unfolding until pieces onto
pieces-cut s [] h = absurd (omega arith)
pieces-cut s (b ∷ bs) h = go (eqb b s) (λ k. pieces-cut s bs k) h
  where
    go : (t : Bool) → (until s bs < length bs → pieces s bs ≡ take (until s bs) bs ∷ pieces s (drop (suc (until s bs)) bs)) → cond t zero (suc (until s bs)) < suc (length bs) → cond t ([] ∷ pieces s bs) (onto b (pieces s bs)) ≡ take (cond t zero (suc (until s bs))) (b ∷ bs) ∷ pieces s (drop (suc (cond t zero (suc (until s bs)))) (b ∷ bs))
    go true r k = refl
    go false r k = ap (onto b) (r (omega arith))

-- there is none
pub pieces-one : (s : ℕ) (l : List ℕ) → until s l ≡ length l → pieces s l ≡ l ∷ []
unfolding until pieces onto
pieces-one s [] e = refl
pieces-one s (b ∷ bs) e = go (eqb b s) (λ k. pieces-one s bs k) e
  where
    go : (t : Bool) → (until s bs ≡ length bs → pieces s bs ≡ bs ∷ []) → cond t zero (suc (until s bs)) ≡ suc (length bs) → cond t ([] ∷ pieces s bs) (onto b (pieces s bs)) ≡ (b ∷ bs) ∷ []
    go true r k = absurd (omega arith)
    go false r k = ap (onto b) (r (omega arith))

-- ---- two lists, element by element
pub same_step : (xs ys : List ℕ) (i : ℕ) → i < length xs → i < length ys → get_or xs i 0 ≡ get_or ys i 0 → same (drop i xs) (drop i ys) ≡ same (drop (i + 1) xs) (drop (i + 1) ys)
unfolding same
same_step xs ys i h k e = rw (add-one i, drop-cons xs i 0, drop-cons ys i 0) (simp (eq-eqb _ _ e))

pub same-differ : (xs ys : List ℕ) (i : ℕ) → i < length xs → i < length ys → (get_or xs i 0 ≡ get_or ys i 0 → ⊥) → same (drop i xs) (drop i ys) ≡ false
unfolding same
same-differ xs ys i h k n = rw (drop-cons xs i 0, drop-cons ys i 0) (simp (ne_eqb _ _ n))

pub same-longer : (xs ys : List ℕ) → (length xs ≡ length ys → ⊥) → same xs ys ≡ false
unfolding same
same-longer [] [] n = absurd (n refl)
same-longer [] (y ∷ ys) n = refl
same-longer (x ∷ xs) [] n = refl
same-longer (x ∷ xs) (y ∷ ys) n = last (eqb x y) (same-longer xs ys (λ e. n (ap suc e)))
  where
    last : (t : Bool) → same xs ys ≡ false → t && same xs ys ≡ false
    last true e = e
    last false e = refl

-- ---- one list behind another
pub joined-nil : (o : Option (List ℕ)) → joined [] o ≡ o
joined-nil None = refl
joined-nil (Some l) = refl

pub joined-joined : (a b : List ℕ) (o : Option (List ℕ)) → joined a (joined b o) ≡ joined (a ++ b) o
joined-joined a b None = refl
joined-joined a b (Some l) = ap {B = Option (List ℕ)} Some (sym (append_assoc a b l))
