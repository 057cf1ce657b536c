-- A refusal that did not apply. Assumes nothing.
use mathlib.Core.Path.{◌≡◌, refl}
use mathlib.Core.Bool.{Bool, true, false}
use Rattle.picture_limits.specs.Refusal.{unless}

-- where the answer is none that refuses, the test passed
pub passed : {A : Type 0} (b : Bool) (r a x : A) → (r ≡ x → ⊥) → unless b r a ≡ x → (b ≡ true) × (a ≡ x)
passed true r a x n e = (refl, e)
passed false r a x n e = absurd (n e)
