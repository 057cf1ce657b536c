-- Lists read off the bytes are what the grammar says. Assumes nothing.
use Rattle.std.specs.Prelude.{Option, None, Some}
use mathlib.Core.Path.{◌≡◌, refl, sym, ap, ◌∙◌}
use mathlib.Core.Bool.{Bool, true, false, cond, ◌||◌, not, false≢true}
use mathlib.Core.List.{List, [], ◌∷◌}
use Prim.Native.Nat.{ℕ, ◌+◌, ◌-◌, ◌*◌}
use native.Mathlib.Nat.{zero-add}
use native.Mathlib.Omega.{arith}
use lib.Dec.{eqb}
use borrow.Author.Tests.{ne_eqb, eqb-true}
use Rattle.json_grammar.specs.Grammar as G
use Rattle.json_grammar.specs.Grammar.{Ws, Value, Elements}
use Rattle.json_grammar.specs.inner.Machine.{digits, nullable, settle, ready, past, go}
use Rattle.json_grammar.specs.inner.Steps.{is_blank, is_digit, is_more, skip}
use Rattle.json_grammar.proofs.Lexing.{digits-took, digits-skip}
use Rattle.json_read.specs.inner.Steps.{Sep, more, closed, wrong, sep_of, separate}
use Rattle.json_members.specs.Names.{limited, number_size, size_of}
use Rattle.json_members.specs.inner.Bytes.{quiet, size_from, size_at}
use Rattle.json_members.proofs.Finding.{ws-skip, value-solid}
use Rattle.json_members.proofs.Sizing.{digit-is, size-law}
use Rattle.json_members.proofs.Suffix.{ws-quiet}
use Rattle.json_lists.specs.Lists.{joined, element_sizes, sizes_of, said_of}
use Rattle.json_lists.specs.inner.Bytes.{awaited, reading, behind, parting, numbers_from, opened, numbers_at, list_at}

joined-none : (o : Option ℕ) → joined o None ≡ None
joined-none None = refl
joined-none (Some n) = refl

-- ---- behind digits

unfoldable pub behind_digits : List ℕ → List ℕ
behind_digits [] = []
behind_digits (b ∷ l) = cond (is_digit b) (behind_digits l) (b ∷ l)

pub digits-go : (d : ℕ) (l : List ℕ) → go d (digits ∷ []) l ≡ past (behind_digits l)
unfolding go ready nullable behind_digits settle
digits-go d [] = refl
digits-go d (b ∷ l) = of (is_digit b) refl (digits-go d l)
  where
    of : (t : Bool) → is_digit b ≡ t → go d (digits ∷ []) l ≡ past (behind_digits l) → go d (digits ∷ []) (b ∷ l) ≡ past (cond t (behind_digits l) (b ∷ l))
    of true e k = rw (digits-took [] b e) k
    of false e k = rw (digits-skip [] b e) refl

-- a fraction or an exponent parts no numbers
more_parts : (b : ℕ) (o c : Option (List ℕ)) → is_more b ≡ true → parting b o c ≡ None
more_parts b o c h = of (eqb b 0x2E) (eqb b 0x65) (eqb b 0x45) refl refl refl h
  where
    of : (t u w : Bool) → eqb b 0x2E ≡ t → eqb b 0x65 ≡ u → eqb b 0x45 ≡ w → (t || (u || w)) ≡ true → parting b o c ≡ None
    of true u w p q r k = rw (eqb-true b 0x2E p) refl
    of false true w p q r k = rw (eqb-true b 0x65 q) refl
    of false false true p q r k = rw (eqb-true b 0x45 r) refl
    of false false false p q r k = absurd (false≢true k)

reading-law : (n : ℕ) (l : List ℕ) → numbers_from (reading n) l ≡ joined (size_from n l) (numbers_from behind (behind_digits l))
unfolding numbers_from size_from behind_digits
reading-law n [] = sym (joined-none (limited n))
reading-law n (b ∷ l) = of (is_digit b) (is_more b) refl (reading-law (n * 10 + (b - 0x30)) l)
  where
    of : (t u : Bool) → is_more b ≡ u → numbers_from (reading (n * 10 + (b - 0x30))) l ≡ joined (size_from (n * 10 + (b - 0x30)) l) (numbers_from behind (behind_digits l)) → cond t (numbers_from (reading (n * 10 + (b - 0x30))) l) (joined (limited n) (parting b (numbers_from behind l) (numbers_from awaited l))) ≡ joined (cond t (size_from (n * 10 + (b - 0x30)) l) (cond u None (limited n))) (numbers_from behind (cond t (behind_digits l) (b ∷ l)))
    of true u e k = k
    of false true e k = rw (more_parts b (numbers_from behind l) (numbers_from awaited l) e) (joined-none (limited n))
    of false false e k = refl

pub awaited-law : (l : List ℕ) → numbers_from awaited l ≡ joined (size_at (skip l)) (numbers_from behind (behind_digits (skip l)))
unfolding numbers_from size_at size_from skip behind_digits
awaited-law [] = refl
awaited-law (b ∷ l) = of (is_blank b) (is_digit b) refl (awaited-law l)
  where
    of : (t u : Bool) → is_digit b ≡ u → numbers_from awaited l ≡ joined (size_at (skip l)) (numbers_from behind (behind_digits (skip l))) → cond t (numbers_from awaited l) (cond u (numbers_from (reading (b - 0x30)) l) None) ≡ joined (size_at (cond t (skip l) (b ∷ l))) (numbers_from behind (behind_digits (cond t (skip l) (b ∷ l))))
    of true u e k = k
    of false true e k = rw (e, zero-add (b - 0x30)) (reading-law (b - 0x30) l)
    of false false e k = rw e refl

-- ---- what parts numbers

abbrev pub parted_by : Sep → Option (List ℕ)
parted_by (more l) = numbers_from awaited l
parted_by (closed l) = Some []
parted_by (wrong l) = None

pub behind-law : (l : List ℕ) → numbers_from behind l ≡ parted_by (separate 0x5D l)
unfolding numbers_from separate skip
behind-law [] = refl
behind-law (b ∷ l) = of (is_blank b) (eqb b 0x2C) (eqb b 0x5D) refl refl (behind-law l)
  where
    of : (t u w : Bool) → eqb b 0x2C ≡ u → eqb b 0x5D ≡ w → numbers_from behind l ≡ parted_by (separate 0x5D l) → cond t (numbers_from behind l) (cond u (numbers_from awaited l) (cond w (Some []) None)) ≡ parted_by (sep_of 0x5D (cond t (skip l) (b ∷ l)))
    of true u w p q k = k
    of false true w p q k = rw p refl
    of false false true p q k = rw (p, q) refl
    of false false false p q k = rw (p, q) refl

-- ---- by the grammar

ws-awaited : {l r : List ℕ} → Ws l r → numbers_from awaited l ≡ numbers_from awaited r
unfolding numbers_from
ws-awaited G.unspaced = refl
ws-awaited (G.space w) = ws-awaited w
ws-awaited (G.tab w) = ws-awaited w
ws-awaited (G.feed w) = ws-awaited w
ws-awaited (G.return w) = ws-awaited w

ws-behind : {l r : List ℕ} → Ws l r → numbers_from behind l ≡ numbers_from behind r
unfolding numbers_from
ws-behind G.unspaced = refl
ws-behind (G.space w) = ws-behind w
ws-behind (G.tab w) = ws-behind w
ws-behind (G.feed w) = ws-behind w
ws-behind (G.return w) = ws-behind w

quiet-rest : (l : List ℕ) → quiet l ≡ true → behind_digits l ≡ l
unfolding quiet behind_digits
quiet-rest [] h = refl
quiet-rest (b ∷ l) h = of (is_digit b) (is_more b) h
  where
    of : (t u : Bool) → not (t || u) ≡ true → cond t (behind_digits l) (b ∷ l) ≡ b ∷ l
    of true u k = absurd (false≢true k)
    of false u k = refl

digits-rest : {l r : List ℕ} → G.Digits l r → behind_digits l ≡ behind_digits r
unfolding behind_digits
digits-rest G.no-digits = refl
digits-rest (G.digits (G.byte {b = b} h w) k) = rw (digit-is b h w) (digits-rest k)

int-rest : {l r : List ℕ} → G.Int l r → behind_digits l ≡ behind_digits r
unfolding behind_digits
int-rest G.zero-int = refl
int-rest (G.int (G.byte {b = b} h w) k) = rw (digit-is b (omega arith) w) (digits-rest k)

-- what is no number has no size, so it does not matter where its digits end
rest-law : {d : ℕ} {l r : List ℕ} (v : Value d l r) → quiet r ≡ true → joined (size_of v) (numbers_from behind (behind_digits l)) ≡ joined (size_of v) (numbers_from behind r)
unfolding size_of number_size
rest-law G.value-false q = refl
rest-law G.value-null q = refl
rest-law G.value-true q = refl
rest-law {r = r} (G.number (G.positive (G.natural i G.no-frac G.no-exp))) q = rw (int-rest i, quiet-rest r q) refl
rest-law (G.number (G.positive (G.natural i G.no-frac (G.small-e k)))) q = refl
rest-law (G.number (G.positive (G.natural i G.no-frac (G.big-e k)))) q = refl
rest-law (G.number (G.positive (G.natural i (G.frac f) x))) q = refl
rest-law (G.number (G.negative k)) q = refl
rest-law (G.string k) q = refl
rest-law (G.empty-array w) q = refl
rest-law (G.array k) q = refl
rest-law (G.empty-object w) q = refl
rest-law (G.object k) q = refl

value-law : {d : ℕ} {l r : List ℕ} (v : Value d l r) → quiet r ≡ true → numbers_from awaited l ≡ joined (size_of v) (numbers_from behind r)
value-law {l = l} v q = awaited-law l ∙ rw (value-solid v, size-law v q) (rest-law v q)

elements-law : {d : ℕ} {l r : List ℕ} (k : Elements d l r) (e : List ℕ) → r ≡ 0x5D ∷ e → numbers_from awaited l ≡ element_sizes k
unfolding numbers_from element_sizes quiet
elements-law (G.element w v u) e h = ws-awaited w ∙ value-law v (ws-quiet u (rw h refl)) ∙ rw (ws-behind u, h) refl
elements-law (G.elements w v u k) e h = ws-awaited w ∙ value-law v (ws-quiet u refl) ∙ rw (ws-behind u, elements-law k e h) refl

-- no value begins with the bracket that closes
opened-value : {d : ℕ} {l r : List ℕ} → Value d l r → opened l ≡ numbers_from awaited l
unfolding opened
opened-value G.value-false = refl
opened-value G.value-null = refl
opened-value G.value-true = refl
opened-value (G.number (G.positive (G.natural G.zero-int f x))) = refl
opened-value (G.number (G.positive (G.natural (G.int (G.byte {b = b} h w) k) f x))) = rw (ne_eqb b 0x5D (λ e. omega arith)) refl
opened-value (G.number (G.negative k)) = refl
opened-value (G.string (G.str k)) = refl
opened-value (G.empty-array w) = refl
opened-value (G.array k) = refl
opened-value (G.empty-object w) = refl
opened-value (G.object k) = refl

opened-ws : {d : ℕ} {l m n : List ℕ} → Ws l m → Value d m n → opened (skip l) ≡ numbers_from awaited l
opened-ws w v = rw (ws-skip w (value-solid v)) (opened-value v ∙ sym (ws-awaited w))

opened-elements : {d : ℕ} {l r : List ℕ} → Elements d l r → opened (skip l) ≡ numbers_from awaited l
opened-elements (G.element w v u) = opened-ws w v
opened-elements (G.elements w v u k) = opened-ws w v

-- the numbers of a value, wherever it ends
pub numbers-law : {k : ℕ} {l e : List ℕ} (v : Value k l e) → numbers_at l ≡ sizes_of v
unfolding numbers_at sizes_of opened skip
numbers-law G.value-false = refl
numbers-law G.value-null = refl
numbers-law G.value-true = refl
numbers-law (G.number (G.positive (G.natural G.zero-int f x))) = refl
numbers-law (G.number (G.positive (G.natural (G.int (G.byte {b = b} h w) k) f x))) = rw (ne_eqb b 0x5B (λ e. omega arith)) refl
numbers-law (G.number (G.negative k)) = refl
numbers-law (G.string (G.str k)) = refl
numbers-law (G.empty-array w) = rw (ws-skip w refl) refl
numbers-law {e = e} (G.array k) = opened-elements k ∙ elements-law k e refl
numbers-law (G.empty-object w) = refl
numbers-law (G.object k) = refl

-- what is read of a value is what the grammar says of it
pub list_law : {k : ℕ} {l e : List ℕ} (v : Value k l e) → list_at l ≡ said_of (sizes_of v)
list_law v = ap said_of (numbers-law v)
