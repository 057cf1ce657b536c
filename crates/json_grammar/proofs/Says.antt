-- What each expectation of the reader means by the grammar. Assumes nothing.
use mathlib.Core.List.{List, [], ◌∷◌}
use Prim.Native.Nat.{ℕ, zero, suc}
use Rattle.json_grammar.specs.Grammar as G
use Rattle.json_grammar.specs.Grammar.{Ws, Value, Elements, Members, Str, Chars}
use Rattle.json_grammar.specs.inner.Machine.{Sym, value, first, rest, first_member, rest-member, key, colon, chars, escape, hex, natural, digits, frac, exp, signed, range, blanks, lowest, highest, weight}

pub data Valued (e : ℕ) : List ℕ → List ℕ → Type 0 where
  valued : {l m r : List ℕ} → Ws l m → Value e m r → Valued e l r

pub data First (e : ℕ) : List ℕ → List ℕ → Type 0 where
  first-none : {l r : List ℕ} → Ws l (0x5D ∷ r) → First e l r
  first_some : {l r : List ℕ} → Elements e l (0x5D ∷ r) → First e l r

pub data Rest (e : ℕ) : List ℕ → List ℕ → Type 0 where
  rest-none : {l r : List ℕ} → Ws l (0x5D ∷ r) → Rest e l r
  rest_some : {l m r : List ℕ} → Ws l (0x2C ∷ m) → Elements e m (0x5D ∷ r) → Rest e l r

pub data FirstMember (e : ℕ) : List ℕ → List ℕ → Type 0 where
  member-none : {l r : List ℕ} → Ws l (0x7D ∷ r) → FirstMember e l r
  member-some : {l r : List ℕ} → Members e l (0x7D ∷ r) → FirstMember e l r

pub data RestMember (e : ℕ) : List ℕ → List ℕ → Type 0 where
  members-none : {l r : List ℕ} → Ws l (0x7D ∷ r) → RestMember e l r
  members-some : {l m r : List ℕ} → Ws l (0x2C ∷ m) → Members e m (0x7D ∷ r) → RestMember e l r

pub data Keyed : List ℕ → List ℕ → Type 0 where
  keyed : {l m r : List ℕ} → Ws l m → Str m r → Keyed l r

-- where e levels are left, those that the symbol opened among them
abbrev pub Says1 : Sym → ℕ → List ℕ → List ℕ → Type 0
Says1 value e l r = Valued e l r
Says1 first zero l r = ⊥
Says1 first (suc e) l r = First e l r
Says1 rest zero l r = ⊥
Says1 rest (suc e) l r = Rest e l r
Says1 first_member zero l r = ⊥
Says1 first_member (suc e) l r = FirstMember e l r
Says1 rest-member zero l r = ⊥
Says1 rest-member (suc e) l r = RestMember e l r
Says1 key e l r = Keyed l r
Says1 colon e l r = Ws l (0x3A ∷ r)
Says1 chars e l r = Chars l (0x22 ∷ r)
Says1 escape e l r = G.Escape l r
Says1 hex e l r = G.Hex l r
Says1 natural e l r = G.Natural l r
Says1 digits e l r = G.Digits l r
Says1 frac e l r = G.Frac l r
Says1 exp e l r = G.Exp l r
Says1 signed e l r = G.Signed l r
Says1 (range c) e l r = G.Range (lowest c) (highest c) l r
Says1 blanks e l r = Ws l r

abbrev pub lower : ℕ → ℕ → ℕ
lower zero e = e
lower (suc w) zero = zero
lower (suc w) (suc e) = lower w e

-- the levels that are left above α
unfoldable pub avail : ℕ → List Sym → ℕ
avail e [] = e
avail e (n ∷ α) = lower (weight n) (avail e α)

pub data Says (e : ℕ) : List Sym → List ℕ → List ℕ → Type 0 where
  done : {r : List ℕ} → Says e [] r r
  then : {n : Sym} {α : List Sym} {l m r : List ℕ} → Says1 n (avail e α) l m → Says e α m r → Says e (n ∷ α) l r
