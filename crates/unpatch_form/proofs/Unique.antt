-- Any two results that satisfy the contract of a public function are equal. Assumes nothing.
use mathlib.Core.Path.{◌≡◌, refl, sym, ap, ◌∙◌}
use mathlib.Core.Bool.{Bool, true, false, cond}
use mathlib.Core.List.{List, [], ◌∷◌, ◌++◌}
use Prim.Native.Nat.{ℕ, ◌-◌, ◌≤◌}
use native.Mathlib.Omega.{arith}
use lib.Dec.{eqb}
use borrow.Author.Tests.{eqb-true}
use lib.ListN.{length, drop, length-drop}
use Rattle.number_floats.proofs.Unique.{one}
use Rattle.std.specs.Prelude.{Option, Some, None}
use Rattle.unpatch_form.specs.Words.{onto, pieces, behind}
use Rattle.unpatch_form.specs.Decimal.{limited}
use Rattle.unpatch_form.specs.Form.{fields, read_vision, read_picture}
use Rattle.unpatch_form.specs.inner.Steps.{until, value_of, fields_from}

-- ---- equal pieces are of equal texts: glued together again they are the text
abbrev glued : ℕ → List (List ℕ) → List ℕ
glued s [] = []
glued s (p ∷ []) = p
glued s (p ∷ (q ∷ qs)) = p ++ (s ∷ glued s (q ∷ qs))

glued-onto : (s b : ℕ) (ps : List (List ℕ)) → glued s (onto b ps) ≡ b ∷ glued s ps
unfolding onto
glued-onto s b [] = refl
glued-onto s b (p ∷ []) = refl
glued-onto s b (p ∷ (q ∷ qs)) = refl

-- one piece more in front, where there is one already
glued-cut : (s : ℕ) (bs : List ℕ) → glued s ([] ∷ pieces s bs) ≡ s ∷ glued s (pieces s bs)
unfolding pieces onto
glued-cut s [] = refl
glued-cut s (c ∷ cs) = go (eqb c s) (pieces s cs)
  where
    go : (t : Bool) (ps : List (List ℕ)) → glued s ([] ∷ cond t ([] ∷ ps) (onto c ps)) ≡ s ∷ glued s (cond t ([] ∷ ps) (onto c ps))
    go true ps = refl
    go false [] = refl
    go false (p ∷ ps) = refl

glued-pieces : (s : ℕ) (l : List ℕ) → glued s (pieces s l) ≡ l
unfolding pieces
glued-pieces s [] = refl
glued-pieces s (b ∷ bs) = go (eqb b s) refl (glued-pieces s bs)
  where
    go : (t : Bool) → eqb b s ≡ t → glued s (pieces s bs) ≡ bs → glued s (cond t ([] ∷ pieces s bs) (onto b (pieces s bs))) ≡ b ∷ bs
    go true e r = glued-cut s bs ∙ ap (λ (l : List ℕ). s ∷ l) r ∙ ap (λ (k : ℕ). k ∷ bs) (sym (eqb-true b s e))
    go false e r = glued-onto s b (pieces s bs) ∙ ap (λ (l : List ℕ). b ∷ l) r

-- so equal remainders of one text start at one place
place_same : (l : List ℕ) (a b : ℕ) → a ≤ length l → b ≤ length l → fields (drop a l) ≡ fields (drop b l) → a ≡ b
place_same l a b h k e =
    let d : drop a l ≡ drop b l = sym (glued-pieces 9 (drop a l)) ∙ ap (glued 9) e ∙ glued-pieces 9 (drop b l) in
    let n : length l - a ≡ length l - b = sym (length-drop a l) ∙ ap length d ∙ length-drop b l in
    omega arith

fields-same : (l : List ℕ) (r q : Option ℕ) → value_of r ≤ length l → value_of q ≤ length l → fields_from r l ≡ fields_from q l → r ≡ q
fields-same l (Some a) (Some b) h k e = let d : fields (drop a l) ≡ fields (drop b l) = cc in ap {B = Option ℕ} Some (place_same l a b h k d)
fields-same l (Some a) None h k e = absurd (let z : ◌≡◌ {A = ℕ} 0 1 = cc in omega arith)
fields-same l None (Some b) h k e = absurd (let z : ◌≡◌ {A = ℕ} 0 1 = cc in omega arith)
fields-same l None None h k e = refl

-- ---- the functions
pub find-unique : (s : List ℕ) (b r q : ℕ) → (r ≡ until b s) × (r ≤ length s) → (q ≡ until b s) × (q ≤ length s) → r ≡ q
find-unique s b r q x y = one _ x.0 y.0

pub decimal-unique : (s : List ℕ) (most : ℕ) (r q : Option ℕ) → r ≡ limited most s → q ≡ limited most s → r ≡ q
decimal-unique s most r q a b = one _ a b

pub behind-unique : (line w : List ℕ) (r q : Option ℕ)
    → (fields_from r line ≡ behind w (fields line)) × (value_of r ≤ length line) → (fields_from q line ≡ behind w (fields line)) × (value_of q ≤ length line) → r ≡ q
behind-unique line w r q a b = fields-same line r q a.1 b.1 (one _ a.0 b.0)

pub vision-unique : (line : List ℕ) (r q : Option (ℕ × ℕ × ℕ)) → r ≡ read_vision line → q ≡ read_vision line → r ≡ q
vision-unique line r q a b = one _ a b

pub picture-unique : (line : List ℕ) (r q : Option (ℕ × ℕ)) → r ≡ read_picture line → q ≡ read_picture line → r ≡ q
picture-unique line r q a b = one _ a b
