-- What it says that a view lies inside a picture. Assumes nothing.
use mathlib.Core.Path.{◌≡◌, refl, sym, ◌∙◌}
use mathlib.Core.Bool.{Bool, true, false}
use Prim.Native.Nat.{ℕ, ◌+◌, ◌-◌, ◌≤◌, ◌<◌}
use native.Mathlib.Omega.{arith}
use borrow.Author.Tests.{leb-true, leb-false, le-leb, lt-leb}
use lib.Dec.{leb}
use Rattle.buffers.proofs.Lists.{and_left, and_right, and_both}
use Rattle.picture_limits.specs.declared.View.{View}
use Rattle.picture_limits.specs.View.{inside}

-- the same asked without a sum
pub leb-less : (at len n : ℕ) → len ≤ n → leb at (n - len) ≡ leb (at + len) n
leb-less at len n h = go (leb at (n - len)) refl
  where
    go : (b : Bool) → leb at (n - len) ≡ b → leb at (n - len) ≡ leb (at + len) n
    go true e = let l = leb-true at (n - len) e in let m : at + len ≤ n = omega arith in e ∙ sym (le-leb (at + len) n m)
    go false e = let l = leb-false at (n - len) e in let m : n < at + len = omega arith in e ∙ sym (lt-leb (at + len) n m)

pub inside-says : (v : View) (h w : ℕ) → inside v h w ≡ true → (v.top + v.height ≤ h) × (v.left + v.width ≤ w)
unfolding inside
inside-says v h w e =
    let A = leb (v.top + v.height) h in
    let B = leb (v.left + v.width) w in
    (leb-true _ _ (and_left A B e), leb-true _ _ (and_right A B e))

pub inside-where : (v : View) (h w : ℕ) → v.top + v.height ≤ h → v.left + v.width ≤ w → inside v h w ≡ true
unfolding inside
inside-where v h w a b = and_both (leb (v.top + v.height) h) (leb (v.left + v.width) w) (le-leb _ _ a) (le-leb _ _ b)
