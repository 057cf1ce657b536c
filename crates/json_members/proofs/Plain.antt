-- Names of ASCII. Assumes nothing.
use mathlib.Core.Path.{◌≡◌, refl}
use mathlib.Core.Bool.{Bool, true, false, ◌&&◌, false≢true}
use mathlib.Core.List.{List, [], ◌∷◌, ◌++◌}
use Prim.Native.Nat.{ℕ, zero, suc}
use native.Mathlib.Omega.{arith}
use lib.Dec.{leb}
use borrow.Author.Tests.{leb-true}
use Rattle.json_members.specs.inner.Turns.{Ascii}

-- a test that computes
abbrev pub plain : List ℕ → Bool
plain [] = true
plain (b ∷ w) = leb b 0x7F && plain w

and_both : (s t : Bool) → (s && t) ≡ true → (s ≡ true) × (t ≡ true)
and_both true t h = (refl, h)
and_both false t h = absurd (false≢true h)

pub ascii : (w : List ℕ) → plain w ≡ true → Ascii w
ascii [] h j = omega arith
ascii (b ∷ w) h zero = leb-true b 0x7F (and_both (leb b 0x7F) (plain w) h).0
ascii (b ∷ w) h (suc j) = ascii w (and_both (leb b 0x7F) (plain w) h).1 j

pub ascii-both : (a b : List ℕ) → Ascii a → Ascii b → Ascii (a ++ b)
ascii-both [] b x y j = y j
ascii-both (c ∷ a) b x y zero = x zero
ascii-both (c ∷ a) b x y (suc j) = ascii-both a b (λ i. x (suc i)) y j
