-- Which alternative has a byte, and what is read then. Assumes nothing.
use mathlib.Core.Path.{◌≡◌, refl}
use mathlib.Core.Bool.{Bool, true, false, ◌&&◌, ◌||◌, false≢true}
use mathlib.Core.List.{List, [], ◌∷◌, ◌++◌}
use mathlib.Core.Option.{none, some}
use Prim.Native.Nat.{ℕ, zero, suc, ◌≤◌, ◌<◌}
use native.Mathlib.Omega.{arith}
use lib.Dec.{leb, ltb}
use borrow.Author.Tests.{le-leb, lt-leb, leb-true, ltb-true}
use Rattle.json_grammar.specs.inner.Machine.{Sym, Alt, alts, nullable, within, pick, took, stuck, settle, ready, go}

pub inside : (a : Alt) (b : ℕ) → a.low ≤ b → b ≤ a.high → within a b ≡ true
unfolding within
inside a b h k = rw (le-leb a.low b h, le-leb b a.high k)

pub outside_low : (a : Alt) (b : ℕ) → b < a.low → within a b ≡ false
unfolding within
outside_low a b h = rw (lt-leb a.low b h)

pub outside_high : (a : Alt) (b : ℕ) → a.high < b → within a b ≡ false
unfolding within
outside_high a b h = rw (lt-leb b a.high h) (of (leb a.low b))
  where
    of : (t : Bool) → (t && false) ≡ false
    of true = refl
    of false = refl

-- no byte is in both
abbrev pub apart : Alt → Alt → Bool
apart a c = ltb a.high c.low || ltb c.high a.low

-- it is in the list, and no byte of it in an alternative before it
unfoldable pub clear : Alt → List Alt → ℕ → Bool
clear a [] k = false
clear a (c ∷ more) zero = leb c.low a.low && leb a.high c.high
clear a (c ∷ more) (suc k) = apart a c && clear a more k

unfoldable pub at : List Alt → ℕ → Alt
at [] k = record { low = 1; high = 0; opens = false; next = [] }
at (c ∷ more) zero = c
at (c ∷ more) (suc k) = at more k

and_both : (s t : Bool) → (s && t) ≡ true → (s ≡ true) × (t ≡ true)
and_both true t h = (refl, h)
and_both false t h = absurd (false≢true h)

apart_out : (a c : Alt) (b : ℕ) → apart a c ≡ true → a.low ≤ b → b ≤ a.high → within c b ≡ false
apart_out a c b h x y = of (ltb a.high c.low) refl h
  where
    of : (t : Bool) → ltb a.high c.low ≡ t → (t || ltb c.high a.low) ≡ true → within c b ≡ false
    of true e h = outside_low c b (omega (arith, ltb-true a.high c.low e))
    of false e h = outside_high c b (omega (arith, ltb-true c.high a.low h))

-- a byte from low to high is in the alternative at k and in none before it
pub chosen : (low high : ℕ) (more : List Alt) (k : ℕ) (b : ℕ) → clear (record { low = low; high = high; opens = false; next = [] }) more k ≡ true → low ≤ b → b ≤ high → pick more b ≡ some (at more k)
unfolding pick clear at
chosen low high [] k b h x y = absurd (false≢true h)
chosen low high (c ∷ more) zero b h x y =
    let w = and_both (leb c.low low) (leb high c.high) h in
    rw (inside c b (omega (arith, leb-true c.low low w.0)) (omega (arith, leb-true high c.high w.1)))
chosen low high (c ∷ more) (suc k) b h x y =
    let a : Alt = record { low = low; high = high; opens = false; next = [] } in
    let w = and_both (apart a c) (clear a more k) h in
    rw (apart_out a c b w.0 x y) (chosen low high more k b w.1 x y)

-- ---- what is read

pub go-some : (d : ℕ) (n : Sym) (α : List Sym) (b : ℕ) (l : List ℕ) (a : Alt) → pick (alts n) b ≡ some a → a.opens ≡ false → go d (n ∷ α) (b ∷ l) ≡ go d (a.next ++ α) l
unfolding go settle
go-some d n α b l a e o = rw (e, o)

pub go-none : (d : ℕ) (n : Sym) (α : List Sym) (b : ℕ) (l : List ℕ) → nullable n ≡ true → pick (alts n) b ≡ none → go d (n ∷ α) (b ∷ l) ≡ go d α (b ∷ l)
unfolding go settle
go-none d n α b l o e = rw (e, o)

pub go-nothing : (d : ℕ) (n : Sym) (α : List Sym) → nullable n ≡ true → go d (n ∷ α) [] ≡ go d α []
unfolding go ready
go-nothing d n α o = rw o

-- no byte of a in any alternative
unfoldable pub gap : Alt → List Alt → Bool
gap a [] = true
gap a (c ∷ more) = apart a c && gap a more

pub unchosen : (low high : ℕ) (more : List Alt) (b : ℕ) → gap (record { low = low; high = high; opens = false; next = [] }) more ≡ true → low ≤ b → b ≤ high → pick more b ≡ none
unfolding pick gap
unchosen low high [] b h x y = refl
unchosen low high (c ∷ more) b h x y =
    let a : Alt = record { low = low; high = high; opens = false; next = [] } in
    let w = and_both (apart a c) (gap a more) h in
    rw (apart_out a c b w.0 x y) (unchosen low high more b w.1 x y)

-- ---- what becomes of a byte

-- a byte from low to high is in the alternative at k
pub settle-at : (n : Sym) (α : List Sym) (low high k b : ℕ) → clear (record { low = low; high = high; opens = false; next = [] }) (alts n) k ≡ true → low ≤ b → b ≤ high → settle (n ∷ α) b ≡ took (at (alts n) k).opens ((at (alts n) k).next ++ α)
unfolding settle
settle-at n α low high k b h x y = rw (chosen low high (alts n) k b h x y)

pub settle-stuck : (n : Sym) (α : List Sym) (b : ℕ) → nullable n ≡ false → pick (alts n) b ≡ none → settle (n ∷ α) b ≡ stuck
unfolding settle
settle-stuck n α b o e = rw (e, o)

pub settle-skip : (n : Sym) (α : List Sym) (b : ℕ) → nullable n ≡ true → pick (alts n) b ≡ none → settle (n ∷ α) b ≡ settle α b
unfolding settle
settle-skip n α b o e = rw (e, o)
