-- What is in the grammar is read. Assumes nothing.
use mathlib.Core.Path.{◌≡◌, refl, sym, ◌∙◌}
use mathlib.Core.Bool.{true, false}
use mathlib.Core.List.{List, [], ◌∷◌, ◌++◌}
use mathlib.Core.Option.{none}
use Prim.Native.Nat.{ℕ, ◌+◌, ◌≤◌}
use native.Mathlib.Omega.{arith}
use borrow.Author.Tests.{le-leb}
use Rattle.json_grammar.specs.Grammar as G
use Rattle.json_grammar.specs.Grammar.{Ws, Value, Elements, Members, Str, Chars}
use Rattle.json_grammar.specs.inner.Machine.{Class, digit, tail, tail-E0, tail-ED, tail-F0, tail-F4, lowest, highest, Sym, value, first, rest, first_member, rest-member, key, colon, chars, escape, hex, natural, digits, frac, exp, signed, range, blanks, Alt, from, byte, behind, spaced, values, alts, nullable, weight, height, within, pick, settle, ready, past, go}
use Rattle.json_grammar.proofs.Picks.{inside, chosen, clear, at, go-some, go-none, go-nothing}

-- no byte of n comes next
pub data Calm (n : Sym) : List ℕ → Type 0 where
  calm-end : Calm n []
  calm : {b : ℕ} {l : List ℕ} → pick (alts n) b ≡ none → Calm n (b ∷ l)

calm-skips : (d : ℕ) (n : Sym) (α : List Sym) {l : List ℕ} → nullable n ≡ true → Calm n l → go d (n ∷ α) l ≡ go d α l
calm-skips d n α o calm-end = go-nothing d n α o
calm-skips d n α o (calm {b = b} {l = l} e) = go-none d n α b l o e

pub record Quiet (l : List ℕ) : Type 0 where
  pub no-digits : Calm digits l
  pub no-frac : Calm frac l
  pub no-exp : Calm exp l

-- ---- one byte

module _ (d : ℕ) (α : List Sym) where
  range-c : (c : Class) {l r : List ℕ} → G.Range (lowest c) (highest c) l r → go d (range c ∷ α) l ≡ go d α r
  unfolding alts pick
  range-c c (G.byte {b = b} {r = r} h k) = go-some d (range c) α b r (from (lowest c) (highest c) []) (rw (inside (from (lowest c) (highest c) []) b h k)) refl

  ws-c : {l r : List ℕ} (n : Sym) (more : List Alt) → alts n ≡ spaced (n ∷ []) more → Ws l r → go d (n ∷ α) l ≡ go d (n ∷ α) r
  unfolding spaced pick within
  ws-c n more e G.unspaced = refl
  ws-c n more e (G.space {l = l} w) = go-some d n α 0x20 l (byte 0x20 (n ∷ [])) (rw e) refl ∙ ws-c n more e w
  ws-c n more e (G.tab {l = l} w) = go-some d n α 0x09 l (byte 0x09 (n ∷ [])) (rw e) refl ∙ ws-c n more e w
  ws-c n more e (G.feed {l = l} w) = go-some d n α 0x0A l (byte 0x0A (n ∷ [])) (rw e) refl ∙ ws-c n more e w
  ws-c n more e (G.return {l = l} w) = go-some d n α 0x0D l (byte 0x0D (n ∷ [])) (rw e) refl ∙ ws-c n more e w

  -- ---- strings

  -- a byte of the alternative at k, which opens no bracket
  range_at :
      (n : Sym) (low high k : ℕ) →
      clear (record { low = low; high = high; opens = false; next = [] }) (alts n) k ≡ true →
      (at (alts n) k).opens ≡ false →
      {l r : List ℕ} → G.Range low high l r → go d (n ∷ α) l ≡ go d ((at (alts n) k).next ++ α) r
  range_at n low high k e o (G.byte {b = b} {r = r} x y) = go-some d n α b r (at (alts n) k) (chosen low high (alts n) k b e x y) o

  hex-c : {l r : List ℕ} → G.Hex l r → go d (hex ∷ α) l ≡ go d α r
  unfolding alts at clear
  hex-c (G.hex-digit b) = range_at hex 0x30 0x39 0 refl refl b
  hex-c (G.hex-big b) = range_at hex 0x41 0x46 1 refl refl b
  hex-c (G.hex-small b) = range_at hex 0x61 0x66 2 refl refl b

module _ (d : ℕ) (α : List Sym) where
  escape-c : {l r : List ℕ} → G.Escape l r → go d (escape ∷ α) l ≡ go d α r
  unfolding go settle alts pick within
  escape-c G.esc-quote = refl
  escape-c G.esc-reverse = refl
  escape-c G.esc-solidus = refl
  escape-c G.esc-b = refl
  escape-c G.esc-f = refl
  escape-c G.esc-n = refl
  escape-c G.esc-r = refl
  escape-c G.esc-t = refl
  escape-c (G.esc-u a b c e) = hex-c d (hex ∷ (hex ∷ (hex ∷ α))) a ∙ hex-c d (hex ∷ (hex ∷ α)) b ∙ hex-c d (hex ∷ α) c ∙ hex-c d α e

  two-c : {l m r : List ℕ} (c e : Class) → G.Range (lowest c) (highest c) l m → G.Range (lowest e) (highest e) m r → go d (range c ∷ (range e ∷ α)) l ≡ go d α r
  two-c c e x y = range-c d (range e ∷ α) c x ∙ range-c d α e y

module _ (d : ℕ) (α : List Sym) where
  char-c : {l r : List ℕ} → G.Char l r → go d (chars ∷ α) l ≡ go d (chars ∷ α) r
  unfolding go settle alts pick within at clear
  char-c (G.low b) = range_at d α chars 0x20 0x21 1 refl refl b
  char-c (G.mid b) = range_at d α chars 0x23 0x5B 2 refl refl b
  char-c (G.high b) = range_at d α chars 0x5D 0x7F 4 refl refl b
  char-c (G.escaped x) = escape-c d (chars ∷ α) x
  char-c (G.two b x) = range_at d α chars 0xC2 0xDF 5 refl refl b ∙ range-c d (chars ∷ α) tail x
  char-c (G.three-E0 x y) = two-c d (chars ∷ α) tail-E0 tail x y
  char-c (G.three-E1 b x y) = range_at d α chars 0xE1 0xEC 7 refl refl b ∙ two-c d (chars ∷ α) tail tail x y
  char-c (G.three-ED x y) = two-c d (chars ∷ α) tail-ED tail x y
  char-c (G.three-EE b x y) = range_at d α chars 0xEE 0xEF 9 refl refl b ∙ two-c d (chars ∷ α) tail tail x y
  char-c (G.four-F0 x y z) = range-c d (range tail ∷ (range tail ∷ (chars ∷ α))) tail-F0 x ∙ two-c d (chars ∷ α) tail tail y z
  char-c (G.four-F1 b x y z) = range_at d α chars 0xF1 0xF3 11 refl refl b ∙ range-c d (range tail ∷ (range tail ∷ (chars ∷ α))) tail x ∙ two-c d (chars ∷ α) tail tail y z
  char-c (G.four-F4 x y z) = range-c d (range tail ∷ (range tail ∷ (chars ∷ α))) tail-F4 x ∙ two-c d (chars ∷ α) tail tail y z

  chars-c : {l r : List ℕ} → Chars l r → go d (chars ∷ α) l ≡ go d (chars ∷ α) r
  chars-c G.no-chars = refl
  chars-c (G.chars c k) = char-c c ∙ chars-c k

  -- behind the quotation mark
  str-c : {l r : List ℕ} → Chars l (0x22 ∷ r) → go d (chars ∷ α) l ≡ go d α r
  unfolding go settle alts pick within
  str-c k = chars-c k

-- ---- numbers

module _ (d : ℕ) (α : List Sym) where
  digits-c : {l r : List ℕ} → G.Digits l r → Calm digits r → go d (digits ∷ α) l ≡ go d α r
  unfolding alts at clear nullable
  digits-c G.no-digits q = calm-skips d digits α refl q
  digits-c (G.digits b k) q = range_at d α digits 0x30 0x39 0 refl refl b ∙ digits-c k q

  digits1-c : {l r : List ℕ} → G.Digits1 l r → Calm digits r → go d (range digit ∷ (digits ∷ α)) l ≡ go d α r
  digits1-c (G.digits1 b k) q = range-c d (digits ∷ α) digit b ∙ digits-c k q

  frac-c : {l r : List ℕ} → G.Frac l r → Calm digits r → Calm frac r → go d (frac ∷ α) l ≡ go d α r
  unfolding go settle alts pick within nullable
  frac-c G.no-frac q f = calm-skips d frac α refl f
  frac-c (G.frac k) q f = digits1-c k q

  signed-c : {l r : List ℕ} → G.Signed l r → Calm digits r → go d (signed ∷ α) l ≡ go d α r
  unfolding go settle alts pick within nullable at clear
  signed-c (G.unsigned (G.digits1 b k)) q = range_at d α signed 0x30 0x39 2 refl refl b ∙ digits-c k q
  signed-c (G.minus k) q = digits1-c k q
  signed-c (G.plus k) q = digits1-c k q

module _ (d : ℕ) (α : List Sym) where
  exp-c : {l r : List ℕ} → G.Exp l r → Quiet r → go d (exp ∷ α) l ≡ go d α r
  unfolding go settle alts pick within nullable
  exp-c G.no-exp q = calm-skips d exp α refl q.no-exp
  exp-c (G.small-e k) q = signed-c d α k q.no-digits
  exp-c (G.big-e k) q = signed-c d α k q.no-digits

exp-no-digits : {l r : List ℕ} → G.Exp l r → Quiet r → Calm digits l
unfolding alts pick within
exp-no-digits G.no-exp q = q.no-digits
exp-no-digits (G.small-e k) q = calm refl
exp-no-digits (G.big-e k) q = calm refl

exp-no-frac : {l r : List ℕ} → G.Exp l r → Quiet r → Calm frac l
unfolding alts pick within
exp-no-frac G.no-exp q = q.no-frac
exp-no-frac (G.small-e k) q = calm refl
exp-no-frac (G.big-e k) q = calm refl

frac-no-digits : {l r : List ℕ} → G.Frac l r → Calm digits r → Calm digits l
unfolding alts pick within
frac-no-digits G.no-frac q = q
frac-no-digits (G.frac k) q = calm refl

module _ (d : ℕ) (α : List Sym) where
  fracs-c : {l m r : List ℕ} → G.Frac l m → G.Exp m r → Quiet r → go d (frac ∷ (exp ∷ α)) l ≡ go d α r
  fracs-c f x q = frac-c d (exp ∷ α) f (exp-no-digits x q) (exp-no-frac x q) ∙ exp-c d α x q

  more-c : {l m n r : List ℕ} → G.Digits l m → G.Frac m n → G.Exp n r → Quiet r → go d (digits ∷ (frac ∷ (exp ∷ α))) l ≡ go d α r
  more-c k f x q = digits-c d (frac ∷ (exp ∷ α)) k (frac-no-digits f (exp-no-digits x q)) ∙ fracs-c f x q

  natural-c : {l r : List ℕ} → G.Natural l r → Quiet r → go d (natural ∷ α) l ≡ go d α r
  unfolding go settle alts pick within at clear
  natural-c (G.natural G.zero-int f x) q = fracs-c f x q
  natural-c (G.natural (G.int b k) f x) q = range_at d α natural 0x31 0x39 1 refl refl b ∙ more-c k f x q

  number-c : {l r : List ℕ} → G.Number l r → Quiet r → go d (value ∷ α) l ≡ go d α r
  unfolding go settle alts pick within at clear values spaced
  number-c (G.negative k) q = natural-c k q
  number-c (G.positive (G.natural G.zero-int f x)) q = fracs-c f x q
  number-c (G.positive (G.natural (G.int b k) f x)) q = range_at d α value 0x31 0x39 9 refl refl b ∙ more-c k f x q

-- ---- values

pub quiet-ws : {l r : List ℕ} → Ws l r → Quiet r → Quiet l
unfolding alts pick within
quiet-ws G.unspaced q = q
quiet-ws (G.space w) q = record { no-digits = calm refl; no-frac = calm refl; no-exp = calm refl }
quiet-ws (G.tab w) q = record { no-digits = calm refl; no-frac = calm refl; no-exp = calm refl }
quiet-ws (G.feed w) q = record { no-digits = calm refl; no-frac = calm refl; no-exp = calm refl }
quiet-ws (G.return w) q = record { no-digits = calm refl; no-frac = calm refl; no-exp = calm refl }

quiet-end : Quiet []
quiet-end = record { no-digits = calm-end; no-frac = calm-end; no-exp = calm-end }

pub quiet-comma : {l : List ℕ} → Quiet (0x2C ∷ l)
unfolding alts pick within
quiet-comma = record { no-digits = calm refl; no-frac = calm refl; no-exp = calm refl }

quiet-list : {l : List ℕ} → Quiet (0x5D ∷ l)
unfolding alts pick within
quiet-list = record { no-digits = calm refl; no-frac = calm refl; no-exp = calm refl }

pub quiet-object : {l : List ℕ} → Quiet (0x7D ∷ l)
unfolding alts pick within
quiet-object = record { no-digits = calm refl; no-frac = calm refl; no-exp = calm refl }

module _ (d : ℕ) (α : List Sym) where
  opens-list : (l : List ℕ) → 1 + height α ≤ d → go d (value ∷ α) (0x5B ∷ l) ≡ go d (first ∷ α) l
  unfolding go settle alts pick within values spaced height weight
  opens-list l h = rw (le-leb (1 + height α) d h)

  opens-object : (l : List ℕ) → 1 + height α ≤ d → go d (value ∷ α) (0x7B ∷ l) ≡ go d (first_member ∷ α) l
  unfolding go settle alts pick within values spaced height weight
  opens-object l h = rw (le-leb (1 + height α) d h)

  value-ws : {l r : List ℕ} → Ws l r → go d (value ∷ α) l ≡ go d (value ∷ α) r
  unfolding alts
  value-ws w = ws-c d α value values refl w

  first-ws : {l r : List ℕ} → Ws l r → go d (first ∷ α) l ≡ go d (first ∷ α) r
  unfolding alts
  first-ws w = ws-c d α first (byte 0x5D [] ∷ behind (rest ∷ []) values) refl w

  rest-ws : {l r : List ℕ} → Ws l r → go d (rest ∷ α) l ≡ go d (rest ∷ α) r
  unfolding alts
  rest-ws w = ws-c d α rest (byte 0x2C (value ∷ (rest ∷ [])) ∷ (byte 0x5D [] ∷ [])) refl w

  first-member-ws : {l r : List ℕ} → Ws l r → go d (first_member ∷ α) l ≡ go d (first_member ∷ α) r
  unfolding alts
  first-member-ws w = ws-c d α first_member _ refl w

  rest-member-ws : {l r : List ℕ} → Ws l r → go d (rest-member ∷ α) l ≡ go d (rest-member ∷ α) r
  unfolding alts
  rest-member-ws w = ws-c d α rest-member _ refl w

  pub key-ws : {l r : List ℕ} → Ws l r → go d (key ∷ α) l ≡ go d (key ∷ α) r
  unfolding alts
  key-ws w = ws-c d α key _ refl w

  pub colon-ws : {l r : List ℕ} → Ws l r → go d (colon ∷ α) l ≡ go d (colon ∷ α) r
  unfolding alts
  colon-ws w = ws-c d α colon _ refl w

  blanks-ws : {l r : List ℕ} → Ws l r → go d (blanks ∷ α) l ≡ go d (blanks ∷ α) r
  unfolding alts
  blanks-ws w = ws-c d α blanks [] refl w

  -- behind a bracket a value is read as anywhere
  natural-first : {l r : List ℕ} → G.Natural l r → go d (first ∷ α) l ≡ go d (value ∷ (rest ∷ α)) l
  unfolding go settle alts pick within at clear values spaced behind
  natural-first (G.natural G.zero-int f x) = refl
  natural-first (G.natural (G.int b k) f x) = range_at d α first 0x31 0x39 10 refl refl b ∙ sym (range_at d (rest ∷ α) value 0x31 0x39 9 refl refl b)

  value-first : {k : ℕ} {l r : List ℕ} → Value k l r → go d (first ∷ α) l ≡ go d (value ∷ (rest ∷ α)) l
  unfolding go settle alts pick within values spaced behind
  value-first G.value-false = refl
  value-first G.value-null = refl
  value-first G.value-true = refl
  value-first (G.number (G.positive k)) = natural-first k
  value-first (G.number (G.negative k)) = refl
  value-first (G.string (G.str k)) = refl
  value-first (G.empty-array w) = refl
  value-first (G.array k) = refl
  value-first (G.empty-object w) = refl
  value-first (G.object k) = refl

module _ (d : ℕ) (α : List Sym) where
  elements-first : {k : ℕ} {l r : List ℕ} → Elements k l r → go d (first ∷ α) l ≡ go d (value ∷ (rest ∷ α)) l
  elements-first (G.element w v u) = first-ws d α w ∙ value-first d α v ∙ sym (value-ws d (rest ∷ α) w)
  elements-first (G.elements w v u k) = first-ws d α w ∙ value-first d α v ∙ sym (value-ws d (rest ∷ α) w)

  pub str-key : {l r : List ℕ} → Str l r → go d (key ∷ α) l ≡ go d α r
  unfolding go settle alts pick within spaced
  str-key (G.str k) = str-c d α k

  str-first : {l r : List ℕ} → Str l r → go d (first_member ∷ α) l ≡ go d (key ∷ (colon ∷ (value ∷ (rest-member ∷ α)))) l
  unfolding go settle alts pick within spaced
  str-first (G.str k) = refl

module _ (d : ℕ) (α : List Sym) where
  members-first : {k : ℕ} {l r : List ℕ} → Members k l r → go d (first_member ∷ α) l ≡ go d (key ∷ (colon ∷ (value ∷ (rest-member ∷ α)))) l
  members-first (G.member w s c x v u) = first-member-ws d α w ∙ str-first d α s ∙ sym (key-ws d (colon ∷ (value ∷ (rest-member ∷ α))) w)
  members-first (G.members w s c x v u k) = first-member-ws d α w ∙ str-first d α s ∙ sym (key-ws d (colon ∷ (value ∷ (rest-member ∷ α))) w)

  -- the name, the colon and the blanks in front of a member's value
  named : {l m n o p : List ℕ} → Ws l m → Str m n → Ws n (0x3A ∷ o) → Ws o p → go d (key ∷ (colon ∷ (value ∷ α))) l ≡ go d (value ∷ α) p
  unfolding go settle alts pick within spaced
  named w s c x = key-ws d (colon ∷ (value ∷ α)) w ∙ str-key d (colon ∷ (value ∷ α)) s ∙ colon-ws d (value ∷ α) c ∙ value-ws d α x

mutual
  unfolding go settle alts pick within values spaced height weight

  pub value-c : {k : ℕ} {l r : List ℕ} → Value k l r → (d : ℕ) (α : List Sym) → Quiet r → k + height α ≤ d → go d (value ∷ α) l ≡ go d α r
  value-c G.value-false d α q h = refl
  value-c G.value-null d α q h = refl
  value-c G.value-true d α q h = refl
  value-c (G.number k) d α q h = number-c d α k q
  value-c (G.string (G.str k)) d α q h = str-c d α k
  value-c (G.empty-array {l = l} w) d α q h = opens-list d α l (omega arith) ∙ first-ws d α w
  value-c (G.array {l = l} k) d α q h = opens-list d α l (omega arith) ∙ elements-first d α k ∙ elements-c k d α quiet-list (omega arith)
  value-c (G.empty-object {l = l} w) d α q h = opens-object d α l (omega arith) ∙ first-member-ws d α w
  value-c (G.object {l = l} k) d α q h = opens-object d α l (omega arith) ∙ members-first d α k ∙ members-c k d α quiet-object (omega arith)

  elements-c : {k : ℕ} {l r : List ℕ} → Elements k l r → (d : ℕ) (α : List Sym) → Quiet r → k + (1 + height α) ≤ d → go d (value ∷ (rest ∷ α)) l ≡ go d (rest ∷ α) r
  elements-c (G.element w v u) d α q h = value-ws d (rest ∷ α) w ∙ value-c v d (rest ∷ α) (quiet-ws u q) (omega arith) ∙ rest-ws d α u
  elements-c (G.elements w v u k) d α q h =
      value-ws d (rest ∷ α) w ∙ value-c v d (rest ∷ α) (quiet-ws u quiet-comma) (omega arith) ∙ rest-ws d α u ∙ elements-c k d α q h

  members-c : {k : ℕ} {l r : List ℕ} → Members k l r → (d : ℕ) (α : List Sym) → Quiet r → k + (1 + height α) ≤ d → go d (key ∷ (colon ∷ (value ∷ (rest-member ∷ α)))) l ≡ go d (rest-member ∷ α) r
  members-c (G.member w s c x v u) d α q h = named d (rest-member ∷ α) w s c x ∙ value-c v d (rest-member ∷ α) (quiet-ws u q) (omega arith) ∙ rest-member-ws d α u
  members-c (G.members w s c x v u k) d α q h =
      named d (rest-member ∷ α) w s c x ∙ value-c v d (rest-member ∷ α) (quiet-ws u quiet-comma) (omega arith) ∙ rest-member-ws d α u ∙ members-c k d α q h

-- a text of at most d levels is read whole
pub complete : {k : ℕ} {l : List ℕ} (d : ℕ) → k ≤ d → G.Text k l → go d (value ∷ (blanks ∷ [])) l ≡ past []
unfolding go ready nullable height weight
complete d h (G.text w v u) =
    value-ws d (blanks ∷ []) w ∙ value-c v d (blanks ∷ []) (quiet-ws u quiet-end) (omega arith) ∙ blanks-ws d [] u
