-- Words as bytes, a text cut at a separator, and how its pieces are read one after another. Assumes nothing.
use Rattle.std.specs.Prelude.{Bool, true, false, cond, ◌&&◌, List, [], ◌∷◌, ◌++◌, ℕ, eqb}
use Rattle.std.specs.Prelude.{Option, None, Some}
use Prim.Native.Char.{code}
use Prim.Native.String.{String, [] as []ˢ, ◌∷◌ as ◌∷ˢ◌}

-- a word's bytes
abbrev pub word : String → List ℕ
word []ˢ = []
word (c ∷ˢ s) = code c ∷ word s

-- the two are the same
unfoldable pub same : List ℕ → List ℕ → Bool
same [] [] = true
same [] (y ∷ ys) = false
same (x ∷ xs) [] = false
same (x ∷ xs) (y ∷ ys) = eqb x y && same xs ys

-- b in front of the first piece
unfoldable pub onto : ℕ → List (List ℕ) → List (List ℕ)
onto b [] = (b ∷ []) ∷ []
onto b (p ∷ ps) = (b ∷ p) ∷ ps

-- what stands between the separators: one piece more than there are separators
unfoldable pub pieces : ℕ → List ℕ → List (List ℕ)
pieces s [] = [] ∷ []
pieces s (b ∷ bs) = cond (eqb b s) ([] ∷ pieces s bs) (onto b (pieces s bs))

-- ---- readers: none is what is outside the form

module _ {A B : Type 0} where
  infixl 10 ◌>>=◌
  -- g reads on with what was found
  abbrev pub ◌>>=◌ : Option A → (A → Option B) → Option B
  None >>= g = None
  Some a >>= g = g a

  -- f reads the first piece, and g the others
  abbrev pub one_piece : (List ℕ → Option A) → (A → List (List ℕ) → Option B) → List (List ℕ) → Option B
  one_piece f g [] = None
  one_piece f g (p ∷ ps) = f p >>= λ a. g a ps

module _ {A : Type 0} where
  -- no piece is left
  abbrev pub end : Option A → List (List ℕ) → Option A
  end a [] = a
  end a (p ∷ ps) = None

-- l, and what is read behind it
abbrev pub joined : List ℕ → Option (List ℕ) → Option (List ℕ)
joined l None = None
joined l (Some m) = Some (l ++ m)

-- the pieces behind the word w, which is the first of several
abbrev pub behind : List ℕ → List (List ℕ) → Option (List (List ℕ))
behind w [] = None
behind w (p ∷ []) = None
behind w (p ∷ (q ∷ qs)) = cond (same p w) (Some (q ∷ qs)) None
