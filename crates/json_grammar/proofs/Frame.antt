-- What stands in front is read first. Assumes nothing.
use mathlib.Core.Path.{◌≡◌, refl, sym, ap}
use mathlib.Core.Bool.{Bool, true, false, ◌&&◌, and_assoc}
use mathlib.Core.List.{List, [], ◌∷◌, ◌++◌, append_assoc}
use mathlib.Core.Option.{Option, none, some}
use Prim.Native.Nat.{ℕ, ◌+◌, ◌≤◌, ◌<◌}
use native.Mathlib.Omega.{arith}
use lib.Dec.{leb}
use borrow.Author.Tests.{le-leb, lt-leb, leb-true, leb-false}
use Rattle.json_grammar.specs.inner.Machine.{Sym, Alt, alts, nullable, height, pick, Settled, took, empty, stuck, settled, settle, ready, Out, at_end, limited, fine, onward, go, after}

pub height-append : (α β : List Sym) → height (α ++ β) ≡ height α + height β
unfolding height
height-append [] β = omega arith
height-append (n ∷ α) β = omega (arith, height-append α β)

pub ready-append : (α β : List Sym) → ready (α ++ β) ≡ (ready α && ready β)
unfolding ready
ready-append [] β = refl
ready-append (n ∷ α) β = rw (ready-append α β) (sym (and_assoc (nullable n) (ready α) (ready β)))

-- what becomes of a byte where β is expected behind
abbrev pub joined : Settled → List Sym → ℕ → Settled
joined (took o γ) β b = took o (γ ++ β)
joined empty β b = settle β b
joined stuck β b = stuck

pub settle-append : (α β : List Sym) (b : ℕ) → settle (α ++ β) b ≡ joined (settle α b) β b
unfolding settle
settle-append [] β b = refl
settle-append (n ∷ α) β b = of (settle-append α β b) (pick (alts n) b) (nullable n)
  where
    of : settle (α ++ β) b ≡ joined (settle α b) β b → (o : Option Alt) (e : Bool) → settled o e (α ++ β) (settle (α ++ β) b) ≡ joined (settled o e α (settle α b)) β b
    of ih (some a) e = ap (took a.opens) (sym (append_assoc a.next α β))
    of ih none true = ih
    of ih none false = refl

leb-same : (a b k : ℕ) → leb (a + b) (k + b) ≡ leb a k
leb-same a b k = of (leb a k) refl
  where
    of : (t : Bool) → leb a k ≡ t → leb (a + b) (k + b) ≡ t
    of true e = let h : a ≤ k = leb-true a k e in le-leb (a + b) (k + b) (omega arith)
    of false e = let h : k < a = leb-false a k e in lt-leb (a + b) (k + b) (omega arith)

module _ (k : ℕ) (base : List Sym) where
  end_frame : (r : Bool) → at_end (r && ready base) ≡ after (at_end r) (go (k + height base) base)
  unfolding go
  end_frame true = refl
  end_frame false = refl

  took-frame : (t : Bool) (o : Out) (l : List ℕ) → limited t (after o (go (k + height base) base)) l ≡ after (limited t o l) (go (k + height base) base)
  took-frame true o l = refl
  took-frame false o l = refl

  step-frame :
      (b : ℕ) (l : List ℕ) →
      ((α : List Sym) → go (k + height base) (α ++ base) l ≡ after (go k α l) (go (k + height base) base)) →
      (t : Settled) →
      onward (k + height base) (b ∷ l) (λ β. go (k + height base) β l) (joined t base b) ≡ after (onward k (b ∷ l) (λ β. go k β l) t) (go (k + height base) base)
  unfolding go
  step-frame b l ih (took o β) = rw (height-append, leb-same, ih β) (took-frame (fine k o β) (go k β l) (b ∷ l))
  step-frame b l ih empty = refl
  step-frame b l ih stuck = refl

  -- with the brackets of what stands behind already open
  pub frame : (α : List Sym) (l : List ℕ) → go (k + height base) (α ++ base) l ≡ after (go k α l) (go (k + height base) base)
  unfolding go
  frame α [] = rw ready-append (end_frame (ready α))
  frame α (b ∷ l) = rw settle-append (step-frame b l (λ β. frame β l) (settle α b))
