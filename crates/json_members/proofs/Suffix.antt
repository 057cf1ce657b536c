-- What a rule leaves is an end of its text, so a member's value stands at the place that is found. Assumes nothing.
use Rattle.std.specs.Prelude.{Option, None, Some}
use mathlib.Core.Path.{◌≡◌, refl, subst}
use mathlib.Core.List.{List, [], ◌∷◌}
use mathlib.Core.Bool.{Bool, true, false, cond}
use Prim.Native.Nat.{ℕ, zero, suc, ◌-◌, ◌≤◌}
use native.Mathlib.Omega.{arith}
use lib.ListN.{length, drop}
use Rattle.json_grammar.specs.Grammar as G
use Rattle.json_grammar.specs.Grammar.{Range, Ws, Value, Elements, Members, Str, Chars}
use Rattle.json_members.specs.Names.{Entry, members_of, entries_of, same, later, lookup}
use Rattle.json_members.specs.inner.Bytes.{quiet}
use Rattle.json_members.specs.inner.Turns.{place_of, Stands, nowhere, somewhere}

-- r is an end of l
pub data Suffix : List ℕ → List ℕ → Type 0 where
  all : {l : List ℕ} → Suffix l l
  step : {b : ℕ} {l r : List ℕ} → Suffix l r → Suffix (b ∷ l) r

infixr 20 ◌⨟◌
◌⨟◌ : {l m r : List ℕ} → Suffix l m → Suffix m r → Suffix l r
all ⨟ t = t
step s ⨟ t = step (s ⨟ t)

shorter : {l r : List ℕ} → Suffix l r → length r ≤ length l
shorter all = omega arith
shorter (step s) = omega (arith, shorter s)

pub drop-suffix : {l r : List ℕ} → Suffix l r → drop (length l - length r) l ≡ r
drop-suffix {l} all = rw (zero_of l)
  where
    zero_of : (l : List ℕ) → length l - length l ≡ 0
    zero_of l = omega arith
drop-suffix {r = r} (step {b = b} {l = l} s) = rw (suc-of s) (drop-suffix s)
  where
    suc-of : Suffix l r → suc (length l) - length r ≡ suc (length l - length r)
    suc-of s = omega (arith, shorter s)

range-s : {a b : ℕ} {l r : List ℕ} → Range a b l r → Suffix l r
range-s (G.byte h k) = step all

pub ws-s : {l r : List ℕ} → Ws l r → Suffix l r
ws-s G.unspaced = all
ws-s (G.space w) = step (ws-s w)
ws-s (G.tab w) = step (ws-s w)
ws-s (G.feed w) = step (ws-s w)
ws-s (G.return w) = step (ws-s w)

digits-s : {l r : List ℕ} → G.Digits l r → Suffix l r
digits-s G.no-digits = all
digits-s (G.digits b k) = range-s b ⨟ digits-s k

digits1-s : {l r : List ℕ} → G.Digits1 l r → Suffix l r
digits1-s (G.digits1 b k) = range-s b ⨟ digits-s k

frac-s : {l r : List ℕ} → G.Frac l r → Suffix l r
frac-s G.no-frac = all
frac-s (G.frac k) = step (digits1-s k)

signed-s : {l r : List ℕ} → G.Signed l r → Suffix l r
signed-s (G.unsigned k) = digits1-s k
signed-s (G.minus k) = step (digits1-s k)
signed-s (G.plus k) = step (digits1-s k)

exp-s : {l r : List ℕ} → G.Exp l r → Suffix l r
exp-s G.no-exp = all
exp-s (G.small-e k) = step (signed-s k)
exp-s (G.big-e k) = step (signed-s k)

natural-s : {l r : List ℕ} → G.Natural l r → Suffix l r
natural-s (G.natural G.zero-int f x) = step (frac-s f ⨟ exp-s x)
natural-s (G.natural (G.int b k) f x) = range-s b ⨟ digits-s k ⨟ frac-s f ⨟ exp-s x

number-s : {l r : List ℕ} → G.Number l r → Suffix l r
number-s (G.positive k) = natural-s k
number-s (G.negative k) = step (natural-s k)

hex-s : {l r : List ℕ} → G.Hex l r → Suffix l r
hex-s (G.hex-digit b) = range-s b
hex-s (G.hex-big b) = range-s b
hex-s (G.hex-small b) = range-s b

escape-s : {l r : List ℕ} → G.Escape l r → Suffix l r
escape-s G.esc-quote = step all
escape-s G.esc-reverse = step all
escape-s G.esc-solidus = step all
escape-s G.esc-b = step all
escape-s G.esc-f = step all
escape-s G.esc-n = step all
escape-s G.esc-r = step all
escape-s G.esc-t = step all
escape-s (G.esc-u a b c d) = step (hex-s a ⨟ hex-s b ⨟ hex-s c ⨟ hex-s d)

char-s : {l r : List ℕ} → G.Char l r → Suffix l r
char-s (G.low b) = range-s b
char-s (G.mid b) = range-s b
char-s (G.high b) = range-s b
char-s (G.escaped x) = step (escape-s x)
char-s (G.two a b) = range-s a ⨟ range-s b
char-s (G.three-E0 a b) = step (range-s a ⨟ range-s b)
char-s (G.three-E1 a b c) = range-s a ⨟ range-s b ⨟ range-s c
char-s (G.three-ED a b) = step (range-s a ⨟ range-s b)
char-s (G.three-EE a b c) = range-s a ⨟ range-s b ⨟ range-s c
char-s (G.four-F0 a b c) = step (range-s a ⨟ range-s b ⨟ range-s c)
char-s (G.four-F1 a b c d) = range-s a ⨟ range-s b ⨟ range-s c ⨟ range-s d
char-s (G.four-F4 a b c) = step (range-s a ⨟ range-s b ⨟ range-s c)

chars-s : {l r : List ℕ} → Chars l r → Suffix l r
chars-s G.no-chars = all
chars-s (G.chars c k) = char-s c ⨟ chars-s k

str-s : {l r : List ℕ} → Str l r → Suffix l r
str-s (G.str k) = step (chars-s k ⨟ step all)

mutual
  value-s : {d : ℕ} {l r : List ℕ} → Value d l r → Suffix l r
  value-s G.value-false = step (step (step (step (step all))))
  value-s G.value-null = step (step (step (step all)))
  value-s G.value-true = step (step (step (step all)))
  value-s (G.number k) = number-s k
  value-s (G.string k) = str-s k
  value-s (G.empty-array w) = step (ws-s w ⨟ step all)
  value-s (G.array k) = step (elements-s k ⨟ step all)
  value-s (G.empty-object w) = step (ws-s w ⨟ step all)
  value-s (G.object k) = step (members-s k ⨟ step all)

  elements-s : {d : ℕ} {l r : List ℕ} → Elements d l r → Suffix l r
  elements-s (G.element w v u) = ws-s w ⨟ value-s v ⨟ ws-s u
  elements-s (G.elements w v u k) = ws-s w ⨟ value-s v ⨟ ws-s u ⨟ step (elements-s k)

  members-s : {d : ℕ} {l r : List ℕ} → Members d l r → Suffix l r
  members-s (G.member w s c x v u) = ws-s w ⨟ str-s s ⨟ ws-s c ⨟ step (ws-s x ⨟ value-s v ⨟ ws-s u)
  members-s (G.members w s c x v u k) = ws-s w ⨟ str-s s ⨟ ws-s c ⨟ step (ws-s x ⨟ value-s v ⨟ ws-s u ⨟ step (members-s k))

-- what is dropped leaves an end
drop-s : (i : ℕ) (s : List ℕ) → Suffix s (drop i s)
drop-s zero s = all
drop-s (suc i) [] = all
drop-s (suc i) (b ∷ s) = step (drop-s i s)

-- ---- what is found

pub ws-quiet : {l r : List ℕ} → Ws l r → quiet r ≡ true → quiet l ≡ true
unfolding quiet
ws-quiet G.unspaced h = h
ws-quiet (G.space w) h = refl
ws-quiet (G.tab w) h = refl
ws-quiet (G.feed w) h = refl
ws-quiet (G.return w) h = refl

-- its value ends l, no number goes on behind it, and it has k levels
data Within (k : ℕ) (l : List ℕ) : Option Entry → Type 0 where
  nothing : Within k l None
  something : {e : Entry} → Suffix l e.from → quiet e.to ≡ true → e.level ≡ k → Within k l (Some e)

later-within : {k : ℕ} {l : List ℕ} (o p : Option Entry) → Within k l o → Within k l p → Within k l (later o p)
later-within None p x y = y
later-within (Some e) p x y = x

cond-within : {k : ℕ} {l : List ℕ} (t : Bool) (e : Entry) → Suffix l e.from → quiet e.to ≡ true → e.level ≡ k → Within k l (cond t (Some e) None)
cond-within true e s q h = something s q h
cond-within false e s q h = nothing

further : {k : ℕ} {l m : List ℕ} {o : Option Entry} → Suffix l m → Within k m o → Within k l o
further s nothing = nothing
further s (something t q h) = something (s ⨟ t) q h

lookup-within : {d : ℕ} {l r : List ℕ} (w : List ℕ) (v : Members d l r) → quiet r ≡ true → Within d l (lookup w (members_of v))
unfolding lookup members_of quiet
lookup-within w (G.member a s c x v u) h =
    cond-within (same _ w) _ (ws-s a ⨟ str-s s ⨟ ws-s c ⨟ step (ws-s x)) (ws-quiet u h) refl
lookup-within w (G.members a s c x v u k) h =
    later-within (lookup w (members_of k)) _
    (further (ws-s a ⨟ str-s s ⨟ ws-s c ⨟ step (ws-s x ⨟ value-s v ⨟ ws-s u ⨟ step all)) (lookup-within w k h))
    (cond-within (same _ w) _ (ws-s a ⨟ str-s s ⨟ ws-s c ⨟ step (ws-s x)) (ws-quiet u refl) refl)

stands_of : {k : ℕ} {l : List ℕ} (s : List ℕ) (o : Option Entry) → Suffix s (0x7B ∷ l) → Within k l o → Stands s (suc k) o
unfolding place_of
stands_of s None t nothing = nowhere
stands_of s (Some e) t (something y q h) = somewhere {e = e} (omega (arith, shorter t, shorter y)) (drop-suffix (t ⨟ step y)) q (omega arith)

pub found : {k : ℕ} {l r : List ℕ} (s w : List ℕ) (at : ℕ) (v : Value k l r) → drop at s ≡ l → Stands s k (lookup w (entries_of v))
unfolding entries_of lookup quiet
found s w at G.value-false h = nowhere
found s w at G.value-null h = nowhere
found s w at G.value-true h = nowhere
found s w at (G.number k) h = nowhere
found s w at (G.string k) h = nowhere
found s w at (G.empty-array u) h = nowhere
found s w at (G.array k) h = nowhere
found s w at (G.empty-object u) h = nowhere
found s w at (G.object k) h = stands_of s (lookup w (members_of k)) (subst (Suffix s) h (drop-s at s)) (lookup-within w k refl)
