-- What the table takes is in the grammar. Assumes nothing.
use mathlib.Core.Path.{◌≡◌, refl, sym, ap, subst}
use mathlib.Core.Bool.{Bool, true, false, ◌&&◌, ◌||◌, not, false≢true}
use mathlib.Core.List.{List, [], ◌∷◌, ◌++◌}
use mathlib.Core.Logic.{◌⊎◌, inl, inr}
use mathlib.Core.Option.{Option, none, some}
use Prim.Native.Nat.{ℕ, zero, suc, ◌+◌, ◌≤◌}
use native.Mathlib.Omega.{arith}
use lib.Dec.{leb, eqb}
use borrow.Author.Tests.{leb-true, eqb-true}
use Rattle.json_grammar.specs.Grammar as G
use Rattle.json_grammar.specs.Grammar.{Ws, Value, Elements, Members, Chars}
use Rattle.json_grammar.specs.inner.Machine.{Class, just, digit, tail, tail-E0, tail-ED, tail-F0, tail-F4, Sym, value, first, rest, first_member, rest-member, key, colon, chars, escape, hex, natural, digits, frac, exp, signed, range, blanks, Alt, behind, spaced, values, alts, nullable, weight, height, within, or_else, pick, took, empty, stuck, settled, settle}
use Rattle.json_grammar.proofs.Frame.{height-append}
use Rattle.json_grammar.proofs.Says.{Valued, valued, First, first-none, first_some, Rest, rest-none, rest_some, FirstMember, member-none, member-some, RestMember, members-none, members-some, Keyed, keyed, Says1, lower, avail, Says, done, then}

-- ---- blanks

data Blank : ℕ → Type 0 where
  space : Blank 0x20
  tab : Blank 0x09
  feed : Blank 0x0A
  return : Blank 0x0D

ws : {b : ℕ} {l r : List ℕ} → Blank b → Ws l r → Ws (b ∷ l) r
ws space w = G.space w
ws tab w = G.tab w
ws feed w = G.feed w
ws return w = G.return w

elements-ws : {e b : ℕ} {l r : List ℕ} → Blank b → Elements e l r → Elements e (b ∷ l) r
elements-ws k (G.element w v u) = G.element (ws k w) v u
elements-ws k (G.elements w v u m) = G.elements (ws k w) v u m

members-ws : {e b : ℕ} {l r : List ℕ} → Blank b → Members e l r → Members e (b ∷ l) r
members-ws k (G.member w s c x v u) = G.member (ws k w) s c x v u
members-ws k (G.members w s c x v u m) = G.members (ws k w) s c x v u m

valued-ws : {e b : ℕ} {l r : List ℕ} → Blank b → Valued e l r → Valued e (b ∷ l) r
valued-ws k (valued w v) = valued (ws k w) v

first-ws : {e b : ℕ} {l r : List ℕ} → Blank b → First e l r → First e (b ∷ l) r
first-ws k (first-none w) = first-none (ws k w)
first-ws k (first_some w) = first_some (elements-ws k w)

rest-ws : {e b : ℕ} {l r : List ℕ} → Blank b → Rest e l r → Rest e (b ∷ l) r
rest-ws k (rest-none w) = rest-none (ws k w)
rest-ws k (rest_some w m) = rest_some (ws k w) m

first-member-ws : {e b : ℕ} {l r : List ℕ} → Blank b → FirstMember e l r → FirstMember e (b ∷ l) r
first-member-ws k (member-none w) = member-none (ws k w)
first-member-ws k (member-some w) = member-some (members-ws k w)

rest-member-ws : {e b : ℕ} {l r : List ℕ} → Blank b → RestMember e l r → RestMember e (b ∷ l) r
rest-member-ws k (members-none w) = members-none (ws k w)
rest-member-ws k (members-some w m) = members-some (ws k w) m

keyed-ws : {b : ℕ} {l r : List ℕ} → Blank b → Keyed l r → Keyed (b ∷ l) r
keyed-ws k (keyed w s) = keyed (ws k w) s

-- ---- alternatives

-- a byte of the alternative, and then what it expects, are what the symbol means
record Right (n : Sym) (e : ℕ) (a : Alt) : Type 0 where
  is : (b : ℕ) (l r : List ℕ) → a.low ≤ b → b ≤ a.high → Says e a.next l r → Says1 n e (b ∷ l) r

data All (P : Alt → Type 0) : List Alt → Type 0 where
  nil : All P []
  cons : {a : Alt} {more : List Alt} → P a → All P more → All P (a ∷ more)

-- a single byte
single :
    {n : Sym} {e c : ℕ} {o : Bool} {α : List Sym} →
    ((l r : List ℕ) → Says e α l r → Says1 n e (c ∷ l) r) →
    Right n e (record { low = c; high = c; opens = o; next = α })
single {n} {e} {c} f = record { is = λ b l r h k s. subst (λ (x : ℕ). Says1 n e (x ∷ l) r) (omega arith) (f l r s) }

-- bytes of a range
ranged :
    {n : Sym} {e c d : ℕ} {o : Bool} {α : List Sym} →
    ((l m r : List ℕ) → G.Range c d l m → Says e α m r → Says1 n e l r) →
    Right n e (record { low = c; high = d; opens = o; next = α })
ranged f = record { is = λ b l r h k s. f (b ∷ l) l r (G.byte h k) s }

module _ {e : ℕ} {l r : List ℕ} where
  only : (n : Sym) → Says e (n ∷ []) l r → Says1 n e l r
  unfolding avail
  only n (then x done) = x

spaced-right :
    {n : Sym} {e : ℕ} {more : List Alt} →
    ((b : ℕ) (l r : List ℕ) → Blank b → Says1 n e l r → Says1 n e (b ∷ l) r) →
    All (Right n e) more →
    All (Right n e) (spaced (n ∷ []) more)
unfolding spaced
spaced-right {n} {e} f k =
    cons (single (λ l r s. f 0x20 l r space (only n s)))
    (cons (single (λ l r s. f 0x09 l r tab (only n s)))
    (cons (single (λ l r s. f 0x0A l r feed (only n s)))
    (cons (single (λ l r s. f 0x0D l r return (only n s)))
    k)))

-- ---- values

module _ {e : ℕ} {l r : List ℕ} where
  of-string : Says e (chars ∷ []) l r → Valued e (0x22 ∷ l) r
  of-string (then c done) = valued G.unspaced (G.string (G.str c))

array_of : {e : ℕ} {l r : List ℕ} → First e l r → Value (suc e) (0x5B ∷ l) r
array_of (first-none w) = G.empty-array w
array_of (first_some k) = G.array k

object_of : {e : ℕ} {l r : List ℕ} → FirstMember e l r → Value (suc e) (0x7B ∷ l) r
object_of (member-none w) = G.empty-object w
object_of (member-some k) = G.object k

of_array : (e : ℕ) {l r : List ℕ} → Says1 first e l r → Valued e (0x5B ∷ l) r
of_array zero k = absurd k
of_array (suc e) k = valued G.unspaced (array_of k)

of-object : (e : ℕ) {l r : List ℕ} → Says1 first_member e l r → Valued e (0x7B ∷ l) r
of-object zero k = absurd k
of-object (suc e) k = valued G.unspaced (object_of k)

module _ {e : ℕ} where
  of_natural : {l r : List ℕ} → G.Natural l r → Valued e l r
  of_natural n = valued G.unspaced (G.number (G.positive n))

  of_negative : {l r : List ℕ} → G.Natural l r → Valued e (0x2D ∷ l) r
  of_negative n = valued G.unspaced (G.number (G.negative n))

  zero-natural : {l r : List ℕ} → Says e (frac ∷ (exp ∷ [])) l r → G.Natural (0x30 ∷ l) r
  zero-natural (then f (then x done)) = G.natural G.zero-int f x

  more-natural : {l m r : List ℕ} → G.Range 0x31 0x39 l m → Says e (digits ∷ (frac ∷ (exp ∷ []))) m r → G.Natural l r
  more-natural b (then d (then f (then x done))) = G.natural (G.int b d) f x

exact : {c : ℕ} {l r : List ℕ} → G.Range c c l r → l ≡ c ∷ r
exact (G.byte {r = r} h k) = ap (λ (x : ℕ). x ∷ r) (omega arith)

module _ {e : ℕ} where
  of-false : {l r : List ℕ} → Says e (range (just 0x61) ∷ (range (just 0x6C) ∷ (range (just 0x73) ∷ (range (just 0x65) ∷ [])))) l r → Valued e (0x66 ∷ l) r
  of-false (then a (then b (then c (then d done)))) = rw (exact a, exact b, exact c, exact d) (valued G.unspaced G.value-false)

  of-null : {l r : List ℕ} → Says e (range (just 0x75) ∷ (range (just 0x6C) ∷ (range (just 0x6C) ∷ []))) l r → Valued e (0x6E ∷ l) r
  of-null (then a (then b (then c done))) = rw (exact a, exact b, exact c) (valued G.unspaced G.value-null)

  of-true : {l r : List ℕ} → Says e (range (just 0x72) ∷ (range (just 0x75) ∷ (range (just 0x65) ∷ []))) l r → Valued e (0x74 ∷ l) r
  of-true (then a (then b (then c done))) = rw (exact a, exact b, exact c) (valued G.unspaced G.value-true)

  values-right : All (Right value e) values
  unfolding values avail
  values-right =
      cons (single (λ l r s. of-string s))
      (cons (single (λ l r s. of_array e (only first s)))
      (cons (single (λ l r s. of-object e (only first_member s)))
      (cons (single (λ l r s. of_negative (only natural s)))
      (cons (single (λ l r s. of_natural (zero-natural s)))
      (cons (ranged (λ l m r b s. of_natural (more-natural b s)))
      (cons (single (λ l r s. of-false s))
      (cons (single (λ l r s. of-null s))
      (cons (single (λ l r s. of-true s))
      nil))))))))

-- ---- lists

avail-append : (e : ℕ) (α β : List Sym) → avail e (α ++ β) ≡ avail (avail e β) α
unfolding avail
avail-append e [] β = refl
avail-append e (n ∷ α) β = ap (lower (weight n)) (avail-append e α β)

-- what is expected is what α means and then what β means
split_rest : {e : ℕ} (α β : List Sym) {l r : List ℕ} → Says e (α ++ β) l r → (m : List ℕ) × Says (avail e β) α l m × Says e β m r
split_rest [] β {l} s = (l, done, s)
split_rest {e} (n ∷ α) β (then x s) = let k = split_rest α β s in (k.0, then (rw (avail-append e α β) at x) k.1, k.2)

first_of : {e : ℕ} {l m r : List ℕ} → Valued e l m → Rest e m r → First e l r
first_of (valued w v) (rest-none u) = first_some (G.element w v u)
first_of (valued w v) (rest_some u k) = first_some (G.elements w v u k)

elements-of : {e : ℕ} {l m r : List ℕ} → Valued e l m → Rest e m r → Elements e l (0x5D ∷ r)
elements-of (valued w v) (rest-none u) = G.element w v u
elements-of (valued w v) (rest_some u k) = G.elements w v u k

module _ {e : ℕ} where
  behind-value : (a : Alt) → Right value e a → Right first (suc e) (record { low = a.low; high = a.high; opens = a.opens; next = a.next ++ (rest ∷ []) })
  unfolding avail weight
  behind-value a k =
      record {
        is = λ b l r h u s.
            let p = split_rest a.next (rest ∷ []) s in
            first_of (k.is b l p.0 h u p.1) (only rest p.2);
      }

  behind-values : (more : List Alt) → All (Right value e) more → All (Right first (suc e)) (behind (rest ∷ []) more)
  unfolding behind
  behind-values [] nil = nil
  behind-values (a ∷ more) (cons k m) = cons (behind-value a k) (behind-values more m)

  closed-list : {l r : List ℕ} → Says (suc e) [] l r → First e (0x5D ∷ l) r
  closed-list done = first-none G.unspaced

  ended-list : {l r : List ℕ} → Says (suc e) [] l r → Rest e (0x5D ∷ l) r
  ended-list done = rest-none G.unspaced

  more-list : {l r : List ℕ} → Says (suc e) (value ∷ (rest ∷ [])) l r → Rest e (0x2C ∷ l) r
  unfolding avail weight
  more-list (then v (then k done)) = rest_some G.unspaced (elements-of v k)

  closed-object : {l r : List ℕ} → Says (suc e) [] l r → FirstMember e (0x7D ∷ l) r
  closed-object done = member-none G.unspaced

  ended-object : {l r : List ℕ} → Says (suc e) [] l r → RestMember e (0x7D ∷ l) r
  ended-object done = members-none G.unspaced

  members-of : {l m n o r : List ℕ} → Keyed l m → Ws m (0x3A ∷ n) → Valued e n o → RestMember e o r → Members e l (0x7D ∷ r)
  members-of (keyed w s) c (valued x v) (members-none u) = G.member w s c x v u
  members-of (keyed w s) c (valued x v) (members-some u k) = G.members w s c x v u k

  begun-object : {l r : List ℕ} → Says (suc e) (chars ∷ (colon ∷ (value ∷ (rest-member ∷ [])))) l r → FirstMember e (0x22 ∷ l) r
  unfolding avail weight
  begun-object (then s (then c (then v (then k done)))) = member-some (members-of (keyed G.unspaced (G.str s)) c v k)

  more-object : {l r : List ℕ} → Says (suc e) (key ∷ (colon ∷ (value ∷ (rest-member ∷ [])))) l r → RestMember e (0x2C ∷ l) r
  unfolding avail weight
  more-object (then s (then c (then v (then k done)))) = members-some G.unspaced (members-of s c v k)

module _ {e : ℕ} where
  of-key : {l r : List ℕ} → Says e (chars ∷ []) l r → Keyed (0x22 ∷ l) r
  of-key (then s done) = keyed G.unspaced (G.str s)

  of-colon : {l r : List ℕ} → Says e [] l r → Ws (0x3A ∷ l) (0x3A ∷ r)
  of-colon done = G.unspaced

  -- ---- strings

  of-quote : {l r : List ℕ} → Says e [] l r → Chars (0x22 ∷ l) (0x22 ∷ r)
  of-quote done = G.no-chars

  of-escape : {l r : List ℕ} → Says e (escape ∷ (chars ∷ [])) l r → Chars (0x5C ∷ l) (0x22 ∷ r)
  of-escape (then x (then c done)) = G.chars (G.escaped x) c

  of_two : {l m r : List ℕ} → G.Range 0xC2 0xDF l m → Says e (range tail ∷ (chars ∷ [])) m r → Chars l (0x22 ∷ r)
  of_two a (then b (then c done)) = G.chars (G.two a b) c

  of-E0 : {l r : List ℕ} → Says e (range tail-E0 ∷ (range tail ∷ (chars ∷ []))) l r → Chars (0xE0 ∷ l) (0x22 ∷ r)
  of-E0 (then a (then b (then c done))) = G.chars (G.three-E0 a b) c

  of-E1 : {l m r : List ℕ} → G.Range 0xE1 0xEC l m → Says e (range tail ∷ (range tail ∷ (chars ∷ []))) m r → Chars l (0x22 ∷ r)
  of-E1 x (then a (then b (then c done))) = G.chars (G.three-E1 x a b) c

  of-ED : {l r : List ℕ} → Says e (range tail-ED ∷ (range tail ∷ (chars ∷ []))) l r → Chars (0xED ∷ l) (0x22 ∷ r)
  of-ED (then a (then b (then c done))) = G.chars (G.three-ED a b) c

  of-EE : {l m r : List ℕ} → G.Range 0xEE 0xEF l m → Says e (range tail ∷ (range tail ∷ (chars ∷ []))) m r → Chars l (0x22 ∷ r)
  of-EE x (then a (then b (then c done))) = G.chars (G.three-EE x a b) c

  of-F0 : {l r : List ℕ} → Says e (range tail-F0 ∷ (range tail ∷ (range tail ∷ (chars ∷ [])))) l r → Chars (0xF0 ∷ l) (0x22 ∷ r)
  of-F0 (then a (then b (then c (then k done)))) = G.chars (G.four-F0 a b c) k

  of-F1 : {l m r : List ℕ} → G.Range 0xF1 0xF3 l m → Says e (range tail ∷ (range tail ∷ (range tail ∷ (chars ∷ [])))) m r → Chars l (0x22 ∷ r)
  of-F1 x (then a (then b (then c (then k done)))) = G.chars (G.four-F1 x a b c) k

  of-F4 : {l r : List ℕ} → Says e (range tail-F4 ∷ (range tail ∷ (range tail ∷ (chars ∷ [])))) l r → Chars (0xF4 ∷ l) (0x22 ∷ r)
  of-F4 (then a (then b (then c (then k done)))) = G.chars (G.four-F4 a b c) k

  chars-right : All (Right chars e) (alts chars)
  unfolding alts avail
  chars-right =
      cons (single (λ l r s. of-quote s))
      (cons (ranged (λ l m r b s. G.chars (G.low b) (only chars s)))
      (cons (ranged (λ l m r b s. G.chars (G.mid b) (only chars s)))
      (cons (single (λ l r s. of-escape s))
      (cons (ranged (λ l m r b s. G.chars (G.high b) (only chars s)))
      (cons (ranged (λ l m r b s. of_two b s))
      (cons (single (λ l r s. of-E0 s))
      (cons (ranged (λ l m r b s. of-E1 b s))
      (cons (single (λ l r s. of-ED s))
      (cons (ranged (λ l m r b s. of-EE b s))
      (cons (single (λ l r s. of-F0 s))
      (cons (ranged (λ l m r b s. of-F1 b s))
      (cons (single (λ l r s. of-F4 s))
      nil))))))))))))

  -- the rule has one byte
  alone : (c : ℕ) (n : Sym) → ((r : List ℕ) → Says1 n e (c ∷ r) r) → (l r : List ℕ) → Says e [] l r → Says1 n e (c ∷ l) r
  alone c n f l r done = f l

  of-u : {l r : List ℕ} → Says e (hex ∷ (hex ∷ (hex ∷ (hex ∷ [])))) l r → G.Escape (0x75 ∷ l) r
  of-u (then a (then b (then c (then d done)))) = G.esc-u a b c d

  escape-right : All (Right escape e) (alts escape)
  unfolding alts
  escape-right =
      cons (single (alone 0x22 escape (λ r. G.esc-quote)))
      (cons (single (alone 0x5C escape (λ r. G.esc-reverse)))
      (cons (single (alone 0x2F escape (λ r. G.esc-solidus)))
      (cons (single (alone 0x62 escape (λ r. G.esc-b)))
      (cons (single (alone 0x66 escape (λ r. G.esc-f)))
      (cons (single (alone 0x6E escape (λ r. G.esc-n)))
      (cons (single (alone 0x72 escape (λ r. G.esc-r)))
      (cons (single (alone 0x74 escape (λ r. G.esc-t)))
      (cons (single (λ l r s. of-u s))
      nil))))))))

  -- the rule is one range
  last : (n : Sym) {a b : ℕ} → ((l r : List ℕ) → G.Range a b l r → Says1 n e l r) → (l m r : List ℕ) → G.Range a b l m → Says e [] m r → Says1 n e l r
  last n f l m r k done = f l m k

  hex-right : All (Right hex e) (alts hex)
  unfolding alts
  hex-right =
      cons (ranged (last hex (λ l r k. G.hex-digit k)))
      (cons (ranged (last hex (λ l r k. G.hex-big k)))
      (cons (ranged (last hex (λ l r k. G.hex-small k)))
      nil))

  -- ---- numbers

  of-digits : {l m r : List ℕ} → G.Range 0x30 0x39 l m → Says e (digits ∷ []) m r → G.Digits1 l r
  of-digits b (then d done) = G.digits1 b d

  of-digits1 : {l r : List ℕ} → Says e (range digit ∷ (digits ∷ [])) l r → G.Digits1 l r
  of-digits1 (then b (then d done)) = G.digits1 b d

  natural-right : All (Right natural e) (alts natural)
  unfolding alts
  natural-right = cons (single (λ l r s. zero-natural s)) (cons (ranged (λ l m r b s. more-natural b s)) nil)

  digits-right : All (Right digits e) (alts digits)
  unfolding alts
  digits-right = cons (ranged (λ l m r b s. G.digits b (only digits s))) nil

  frac-right : All (Right frac e) (alts frac)
  unfolding alts
  frac-right = cons (single (λ l r s. G.frac (of-digits1 s))) nil

  exp-right : All (Right exp e) (alts exp)
  unfolding alts
  exp-right = cons (single (λ l r s. G.small-e (only signed s))) (cons (single (λ l r s. G.big-e (only signed s))) nil)

  signed-right : All (Right signed e) (alts signed)
  unfolding alts
  signed-right =
      cons (single (λ l r s. G.minus (of-digits1 s)))
      (cons (single (λ l r s. G.plus (of-digits1 s)))
      (cons (ranged (λ l m r b s. G.unsigned (of-digits b s)))
      nil))

  range-right : (c : Class) → All (Right (range c) e) (alts (range c))
  unfolding alts
  range-right c = cons (ranged (last (range c) (λ l r k. k))) nil

-- ---- the table

right : (n : Sym) (e : ℕ) → weight n ≤ e → All (Right n e) (alts n)
unfolding alts weight
right value e h = spaced-right (λ b l r k s. valued-ws k s) values-right
right first zero h = absurd (omega arith)
right first (suc e) h = spaced-right (λ b l r k s. first-ws k s) (cons (single (λ l r s. closed-list s)) (behind-values values values-right))
right rest zero h = absurd (omega arith)
right rest (suc e) h = spaced-right (λ b l r k s. rest-ws k s) (cons (single (λ l r s. more-list s)) (cons (single (λ l r s. ended-list s)) nil))
right first_member zero h = absurd (omega arith)
right first_member (suc e) h =
    spaced-right (λ b l r k s. first-member-ws k s) (cons (single (λ l r s. closed-object s)) (cons (single (λ l r s. begun-object s)) nil))
right rest-member zero h = absurd (omega arith)
right rest-member (suc e) h =
    spaced-right (λ b l r k s. rest-member-ws k s) (cons (single (λ l r s. more-object s)) (cons (single (λ l r s. ended-object s)) nil))
right key e h = spaced-right (λ b l r k s. keyed-ws k s) (cons (single (λ l r s. of-key s)) nil)
right colon e h = spaced-right (λ b l r k s. ws k s) (cons (single (λ l r s. of-colon s)) nil)
right chars e h = chars-right
right escape e h = escape-right
right hex e h = hex-right
right natural e h = natural-right
right digits e h = digits-right
right frac e h = frac-right
right exp e h = exp-right
right signed e h = signed-right
right (range c) e h = range-right c
right blanks e h = spaced-right (λ b l r k s. ws k s) nil

pub missing : (n : Sym) (e : ℕ) (l : List ℕ) → nullable n ≡ true → Says1 n e l l
unfolding nullable
missing value e l h = absurd (false≢true h)
missing first e l h = absurd (false≢true h)
missing rest e l h = absurd (false≢true h)
missing first_member e l h = absurd (false≢true h)
missing rest-member e l h = absurd (false≢true h)
missing key e l h = absurd (false≢true h)
missing colon e l h = absurd (false≢true h)
missing chars e l h = absurd (false≢true h)
missing escape e l h = absurd (false≢true h)
missing hex e l h = absurd (false≢true h)
missing natural e l h = absurd (false≢true h)
missing digits e l h = G.no-digits
missing frac e l h = G.no-frac
missing exp e l h = G.no-exp
missing signed e l h = absurd (false≢true h)
missing (range c) e l h = absurd (false≢true h)
missing blanks e l h = G.unspaced

-- ---- a step

data Picked (P : Alt → Type 0) (b : ℕ) : Option Alt → Type 0 where
  found : {a : Alt} → P a → a.low ≤ b → b ≤ a.high → Picked P b (some a)
  lacking : Picked P b none

and_both : (s t : Bool) → (s && t) ≡ true → (s ≡ true) × (t ≡ true)
and_both true t h = (refl, h)
and_both false t h = absurd (false≢true h)

picks : {P : Alt → Type 0} (b : ℕ) (more : List Alt) → All P more → Picked P b (pick more b)
unfolding pick within
picks b [] nil = lacking
picks {P} b (a ∷ more) (cons k m) = of (within a b) refl (picks b more m)
  where
    of : (t : Bool) → within a b ≡ t → Picked P b (pick more b) → Picked P b (or_else t a (pick more b))
    of true h q =
        let w = and_both (leb a.low b) (leb b a.high) h in
        found k (leb-true a.low b w.0) (leb-true b a.high w.1)
    of false h q = q

lower-is : (w k : ℕ) → w ≤ k → lower w k + w ≡ k
lower-is zero k h = omega arith
lower-is (suc w) zero h = absurd (omega arith)
lower-is (suc w) (suc k) h = omega (arith, lower-is w k (omega arith))

-- as many levels are left above α as it leaves
pub avail-is : (e : ℕ) (α : List Sym) → height α ≤ e → avail e α + height α ≡ e
unfolding avail height
avail-is e [] h = omega arith
avail-is e (n ∷ α) h =
    let k = avail-is e α (omega arith) in
    omega (arith, k, lower-is (weight n) (avail e α) (omega arith))

out_of : {o p : Bool} {α β : List Sym} → took o α ≡ took p β → α ≡ β
out_of h = cc

not-took : {o : Bool} {α : List Sym} → stuck ≡ took o α → ⊥
not-took h = let z : ◌≡◌ {A = ℕ} 0 1 = cc in omega arith

empty-took : {o : Bool} {α : List Sym} → empty ≡ took o α → ⊥
empty-took h = let z : ◌≡◌ {A = ℕ} 0 1 = cc in omega arith

-- a byte that is taken, and then what is expected, are what was expected
pub sound-step : (e b : ℕ) (α : List Sym) {o : Bool} {β : List Sym} {l r : List ℕ} → settle α b ≡ took o β → height α ≤ e → Says e β l r → Says e α (b ∷ l) r
unfolding settle height
sound-step e b [] h w s = absurd (empty-took h)
sound-step e b (n ∷ α) {o} {β} {l} {r} h w s =
    of (pick (alts n) b) (picks b (alts n) (right n (avail e α) (omega (arith, avail-is e α (omega arith))))) (nullable n) refl (λ k. sound-step e b α k (omega arith) s) h
  where
    of :
        (p : Option Alt) → Picked (Right n (avail e α)) b p →
        (t : Bool) → nullable n ≡ t →
        (settle α b ≡ took o β → Says e α (b ∷ l) r) →
        settled p t α (settle α b) ≡ took o β →
        Says e (n ∷ α) (b ∷ l) r
    of (some a) (found k x y) t q ih e' =
        let z = split_rest a.next α (subst (λ (γ : List Sym). Says e γ l r) (sym (out_of e')) s) in
        then (k.is b l z.0 x y z.1) z.2
    of none lacking true q ih e' = then (missing n (avail e α) (b ∷ l) q) (ih e')
    of none lacking false q ih e' = absurd (not-took e')

-- ---- how many brackets are open

abbrev pub bump : Bool → ℕ → ℕ
bump true h = suc h
bump false h = h

abbrev rising : Sym → Alt → Bool
rising n a = leb (height a.next) (bump a.opens (weight n))

abbrev every : Sym → List Alt → Bool
every n [] = true
every n (a ∷ more) = rising n a && every n more

record Rises (n : Sym) (a : Alt) : Type 0 where
  rise : height a.next ≤ bump a.opens (weight n)

every-all : (n : Sym) (more : List Alt) → every n more ≡ true → All (Rises n) more
every-all n [] h = nil
every-all n (a ∷ more) h =
    let w = and_both (rising n a) (every n more) h in
    cons (record { rise = leb-true (height a.next) (bump a.opens (weight n)) w.0 }) (every-all n more w.1)

table-rises : (n : Sym) → every n (alts n) ≡ true
unfolding alts height weight values spaced behind
table-rises value = refl
table-rises first = refl
table-rises rest = refl
table-rises first_member = refl
table-rises rest-member = refl
table-rises key = refl
table-rises colon = refl
table-rises chars = refl
table-rises escape = refl
table-rises hex = refl
table-rises natural = refl
table-rises digits = refl
table-rises frac = refl
table-rises exp = refl
table-rises signed = refl
table-rises (range c) = refl
table-rises blanks = refl

opens-out : {o p : Bool} {α β : List Sym} → took o α ≡ took p β → o ≡ p
opens-out h = cc

bump-add : (o : Bool) (a b : ℕ) → bump o a + b ≡ bump o (a + b)
bump-add true a b = omega arith
bump-add false a b = refl

-- a byte opens one bracket more, or none
pub rises : (b : ℕ) (α : List Sym) {o : Bool} {β : List Sym} → settle α b ≡ took o β → height β ≤ bump o (height α)
unfolding settle height
rises b [] h = absurd (empty-took h)
rises b (n ∷ α) {o} {β} h = of (pick (alts n) b) (picks b (alts n) (every-all n (alts n) (table-rises n))) (nullable n) (λ k. rises b α k) h
  where
    grow : (o : Bool) (w : ℕ) → bump o w ≤ bump o (weight n + w)
    grow true w = omega arith
    grow false w = omega arith

    of :
        (p : Option Alt) → Picked (Rises n) b p →
        (t : Bool) →
        (settle α b ≡ took o β → height β ≤ bump o (height α)) →
        settled p t α (settle α b) ≡ took o β →
        height β ≤ bump o (height (n ∷ α))
    of (some a) (found k x y) t ih e =
        rw (← out_of e, ← opens-out e, height-append a.next α, ← bump-add a.opens (weight n) (height α)) (omega (arith, k.rise))
    of none lacking true ih e = omega (arith, ih e, grow o (height α))
    of none lacking false ih e = absurd (not-took e)

-- ---- what opens a bracket

abbrev both-are : ℕ → Alt → Bool
both-are x a = eqb a.low x && eqb a.high x

abbrev bracketed : Alt → Bool
bracketed a = not a.opens || (both-are 0x5B a || both-are 0x7B a)

abbrev brackets : List Alt → Bool
brackets [] = true
brackets (a ∷ more) = bracketed a && brackets more

abbrev pub Bracket : ℕ → Type 0
Bracket b = (b ≡ 0x5B) ⊎ (b ≡ 0x7B)

record Opens (a : Alt) : Type 0 where
  opening : (b : ℕ) → a.opens ≡ true → a.low ≤ b → b ≤ a.high → Bracket b

opens_by : (a : Alt) → bracketed a ≡ true → Opens a
opens_by a h = record { opening = λ b o x y. of b a.opens (both-are 0x5B a) (both-are 0x7B a) o refl refl x y h }
  where
    at_byte : (x b : ℕ) → both-are x a ≡ true → a.low ≤ b → b ≤ a.high → b ≡ x
    at_byte x b e p q =
        let w = and_both (eqb a.low x) (eqb a.high x) e in
        omega (arith, eqb-true a.low x w.0, eqb-true a.high x w.1)

    of : (b : ℕ) (o s t : Bool) → o ≡ true → both-are 0x5B a ≡ s → both-are 0x7B a ≡ t → a.low ≤ b → b ≤ a.high → (not o || (s || t)) ≡ true → Bracket b
    of b false s t o es et x y k = absurd (false≢true o)
    of b true true t o es et x y k = inl (at_byte 0x5B b es x y)
    of b true false true o es et x y k = inr (at_byte 0x7B b et x y)
    of b true false false o es et x y k = absurd (false≢true k)

all-opens : (more : List Alt) → brackets more ≡ true → All Opens more
all-opens [] h = nil
all-opens (a ∷ more) h =
    let w = and_both (bracketed a) (brackets more) h in
    cons (opens_by a w.0) (all-opens more w.1)

table-brackets : (n : Sym) → brackets (alts n) ≡ true
unfolding alts values spaced behind
table-brackets value = refl
table-brackets first = refl
table-brackets rest = refl
table-brackets first_member = refl
table-brackets rest-member = refl
table-brackets key = refl
table-brackets colon = refl
table-brackets chars = refl
table-brackets escape = refl
table-brackets hex = refl
table-brackets natural = refl
table-brackets digits = refl
table-brackets frac = refl
table-brackets exp = refl
table-brackets signed = refl
table-brackets (range c) = refl
table-brackets blanks = refl

pub bracket-is : (b : ℕ) (α : List Sym) {β : List Sym} → settle α b ≡ took true β → Bracket b
unfolding settle
bracket-is b [] h = absurd (empty-took h)
bracket-is b (n ∷ α) {β} h = of (pick (alts n) b) (picks b (alts n) (all-opens (alts n) (table-brackets n))) (nullable n) (λ k. bracket-is b α k) h
  where
    of : (p : Option Alt) → Picked Opens b p → (t : Bool) → (settle α b ≡ took true β → Bracket b) → settled p t α (settle α b) ≡ took true β → Bracket b
    of (some a) (found k x y) t ih e = k.opening b (opens-out e) x y
    of none lacking true ih e = ih e
    of none lacking false ih e = absurd (not-took e)
