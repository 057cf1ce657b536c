-- `scan::is_word` meets its contract. Assumes nothing.
use Rattle.std.proofs.Common.{◌≡◌, ℕ, ◌&&◌, eqb, List, [], ◌∷◌, refl, ap, ◌∙◌}
use lib.Pointwise.{pointwise}
use Rattle.unpatch_form.specs.Words.{same}
use Rattle.unpatch_form.proofs.scan.is_word.Goals as goal

alike : (s w : List ℕ) → pointwise eqb s w ≡ same s w
unfolding same
alike [] [] = refl
alike [] (y ∷ ys) = refl
alike (x ∷ xs) [] = refl
alike (x ∷ xs) (y ∷ ys) = ap (λ b. eqb x y && b) (alike xs ys)

pub returns : goal.returns
returns c = c.eq.ensures ∙ alike _ _
