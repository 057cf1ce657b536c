-- Laws of the tests of `specs/Room.antt`. Assumes nothing.
use mathlib.Core.Bool.{Bool, true, false, ◌&&◌, ◌||◌}
use mathlib.Core.Path.{◌≡◌, refl, ap, ◌∙◌}
use mathlib.Core.List.{List}
use Prim.Native.Nat.{ℕ, ◌+◌, ◌≤◌}
use native.Mathlib.Omega.{arith}
use borrow.Author.Tests.{leb-true, leb-false, le-leb}
use lib.Dec.{leb}
use lib.ListN.{length}
use lib.Ieee.{Float}
use Rattle.buffers.specs.Region.{put}
use Rattle.buffers.specs.inner.Apart.{Apart, before, after}
use Rattle.buffers.specs.inner.Room.{inside, aside, where_fits}
use Rattle.buffers.proofs.Lists.{and_left, and_right}

pub and_parts : (a b : Bool) → a && b ≡ true → (a ≡ true) × (b ≡ true)
and_parts a b h = (and_left a b h, and_right a b h)

pub two : {a b : Bool} → a ≡ true → b ≡ true → a && b ≡ true
two p q = rw (p, q)

-- tests of facts that follow from each other are equal
pub leb-same : (a b c d : ℕ) → (a ≤ b → c ≤ d) → (c ≤ d → a ≤ b) → leb a b ≡ leb c d
leb-same a b c d f g = go (leb a b) (leb c d) refl refl
  where
    go : (x y : Bool) → leb a b ≡ x → leb c d ≡ y → x ≡ y
    go true true p q = refl
    go false false p q = refl
    go true false p q = let h = f (leb-true a b p) in let k = leb-false c d q in absurd (omega arith)
    go false true p q = let h = g (leb-true c d q) in let k = leb-false a b p in absurd (omega arith)

-- ---- two regions apart

pub aside-says : (x n y m : ℕ) → aside x n y m ≡ true → Apart x n y m
aside-says x n y m h = go (inside y x n) refl h
  where
    go : (b : Bool) → inside y x n ≡ b → b || inside x y m ≡ true → Apart x n y m
    go true e g = before (leb-true (x + n) y e)
    go false e g = after (leb-true (y + m) x g)

or-true : (b : Bool) → b || true ≡ true
or-true true = refl
or-true false = refl

pub aside-is : {x n y m : ℕ} → Apart x n y m → aside x n y m ≡ true
aside-is {x} {n} {y} {m} (before h) = rw (le-leb (x + n) y h)
aside-is {x} {n} {y} {m} (after h) = rw (le-leb (y + m) x h) (or-true (inside y x n))

-- what is written where it fits
pub written : (s u l : List Float) (at n : ℕ) → at + n ≤ length s → u ≡ where_fits (inside (length s) at n) s at l → u ≡ put s at l
written s u l at n h e = e ∙ ap (λ b. where_fits b s at l) (le-leb (at + n) (length s) h)
