-- Names read off the bytes are what the grammar says. Assumes nothing.
use Rattle.std.specs.Prelude.{None, Some}
use mathlib.Core.Path.{◌≡◌, refl, sym, ap, ◌∙◌}
use mathlib.Core.Bool.{Bool, true, false, cond, ◌&&◌}
use mathlib.Core.List.{List, [], ◌∷◌, ◌++◌, append-nil}
use Prim.Native.Nat.{ℕ, zero, suc, ◌+◌, ◌-◌, ◌*◌, ◌≤◌, ◌<◌}
use native.Mathlib.Decide.{dec_lt}
use native.Mathlib.Numerals.{add-one}
use native.Mathlib.Omega.{arith}
use lib.Dec.{eqb, ltb}
use lib.ListN.{length, get_or, drop, drop_of_length-le, length-drop}
use lib.Seq.{drop-cons, drop-drop}
use borrow.Author.Tests.{lt-ltb, le-ltb, ne_eqb}
use Rattle.json_grammar.specs.Grammar as G
use Rattle.json_grammar.specs.Grammar.{Chars}
use Rattle.json_members.specs.Names.{hex_says, escape_says, char_says, chars_say, same}
use Rattle.json_members.specs.inner.Bytes.{hex_value, simple_of, four_of, escape_of, code_of, escape_width, width_of, name_is, behind_at, followed}

-- ---- at a place

four-few : (l : List ℕ) → length l < 4 → four_of l ≡ 256
unfolding four_of
four-few [] h = refl
four-few (a ∷ []) h = refl
four-few (a ∷ (b ∷ [])) h = refl
four-few (a ∷ (b ∷ (c ∷ []))) h = refl
four-few (a ∷ (b ∷ (c ∷ (d ∷ l)))) h = absurd (omega arith)

pub four-short : (s : List ℕ) (at : ℕ) → length s - at < 4 → four_of (drop at s) ≡ 256
four-short s at h = four-few (drop at s) (rw length-drop h)

pub four-at : (s : List ℕ) (at : ℕ) → at + 3 < length s → four_of (drop at s) ≡ ((hex_value (get_or s at 0) * 16 + hex_value (get_or s (at + 1) 0)) * 16 + hex_value (get_or s (at + 2) 0)) * 16 + hex_value (get_or s (at + 3) 0)
unfolding four_of
four-at s at h =
    let p : at < length s = omega arith in
    let q : at + 1 < length s = omega arith in
    let r : at + 2 < length s = omega arith in
    let e : suc at ≡ at + 1 = omega arith in
    let f : suc (at + 1) ≡ at + 2 = omega arith in
    let g : suc (at + 2) ≡ at + 3 = omega arith in
    rw (drop-cons s at 0 p, e, drop-cons s (at + 1) 0 q, f, drop-cons s (at + 2) 0 r, g, drop-cons s (at + 3) 0 h)

module _ (s : List ℕ) (at : ℕ) where
  pub code-end : length s ≤ at → code_of (drop at s) ≡ 256
  unfolding code_of
  code-end h = rw (drop_of_length-le s h)

  pub code_at : at < length s → code_of (drop at s) ≡ cond (eqb (get_or s at 0) 0x5C) (escape_of (drop (at + 1) s)) (get_or s at 0)
  unfolding code_of
  code_at h = rw (add-one at, drop-cons s at 0 h)

  pub escape_end : length s ≤ at → escape_of (drop at s) ≡ 256
  unfolding escape_of
  escape_end h = rw (drop_of_length-le s h)

  pub escape-at : at < length s → escape_of (drop at s) ≡ cond (eqb (get_or s at 0) 0x75) (four_of (drop (at + 1) s)) (simple_of (get_or s at 0))
  unfolding escape_of
  escape-at h = rw (add-one at, drop-cons s at 0 h)

  pub escape-width-end : length s ≤ at → escape_width (drop at s) ≡ 2
  unfolding escape_width
  escape-width-end h = rw (drop_of_length-le s h)

  pub escape-width-at : at < length s → escape_width (drop at s) ≡ cond (eqb (get_or s at 0) 0x75) 6 2
  unfolding escape_width
  escape-width-at h = rw (drop-cons s at 0 h)

name-step : (x : ℕ) (w m : List ℕ) (b : ℕ) (l : List ℕ) → m ≡ b ∷ l → name_is (x ∷ w) m ≡ cond (eqb b 0x22) false (eqb (code_of m) x && name_is w (drop (width_of b l) m))
unfolding name_is
name-step x w m b l e = rw e

module _ (s : List ℕ) (i : ℕ) where
  -- a character of w more
  name-next : (x : ℕ) (w : List ℕ) → i < length s → name_is (x ∷ w) (drop i s) ≡ cond (eqb (get_or s i 0) 0x22) false (eqb (code_of (drop i s)) x && name_is w (drop (i + width_of (get_or s i 0) (drop (i + 1) s)) s))
  name-next x w k =
      let b = get_or s i 0 in
      let f : drop i s ≡ b ∷ drop (i + 1) s = rw (add-one i) (drop-cons s i 0 k) in
      name-step x w (drop i s) b (drop (i + 1) s) f
      ∙ ap (λ (m : List ℕ). cond (eqb b 0x22) false (eqb (code_of (drop i s)) x && name_is w m)) (drop-drop (width_of b (drop (i + 1) s)) i s)

  name_out : (x : ℕ) (w : List ℕ) → length s ≤ i → name_is (x ∷ w) (drop i s) ≡ false
  unfolding name_is
  name_out x w k = rw (drop_of_length-le s k)

  pub name-end : length s ≤ i → name_is [] (drop i s) ≡ false
  unfolding name_is
  name-end k = rw (drop_of_length-le s k)

  pub name-quote : i < length s → name_is [] (drop i s) ≡ eqb (get_or s i 0) 0x22
  unfolding name_is
  name-quote k = rw (drop-cons s i 0 k)

module _ (w : List ℕ) (j : ℕ) (s : List ℕ) (i : ℕ) where
  pub behind-out : j < length w → length s ≤ i → behind_at s i (drop j w) ≡ None
  unfolding behind_at
  behind-out h k = rw (drop-cons w j 0 h, le-ltb i (length s) k)

  pub behind-at : j < length w → i < length s → behind_at s i (drop j w) ≡ cond (eqb (get_or s i 0) 0x22) None (cond (eqb (code_of (drop i s)) (get_or w j 0)) (behind_at s (i + width_of (get_or s i 0) (drop (i + 1) s)) (drop (j + 1) w)) None)
  unfolding behind_at
  behind-at h k = rw (add-one j, drop-cons w j 0 h, lt-ltb i (length s) k)

  pub behind-done : length w ≤ j → behind_at s i (drop j w) ≡ Some i
  unfolding behind_at
  behind-done h = rw (drop_of_length-le w h)

-- a name in two parts: the second stands behind the first
pub name-parts : (s : List ℕ) (i : ℕ) (a b : List ℕ) → name_is (a ++ b) (drop i s) ≡ followed (behind_at s i a) (λ k. name_is b (drop k s))
unfolding behind_at
name-parts s i [] b = refl
name-parts s i (x ∷ a) b = of (name-parts s (i + width_of (get_or s i 0) (drop (i + 1) s)) a b) (dec_lt i (length s))
  where
    wide : ℕ
    wide = width_of (get_or s i 0) (drop (i + 1) s)

    by : name_is (a ++ b) (drop (i + wide) s) ≡ followed (behind_at s (i + wide) a) (λ k. name_is b (drop k s)) → (t u : Bool) → cond t false (u && name_is (a ++ b) (drop (i + wide) s)) ≡ followed (cond t None (cond u (behind_at s (i + wide) a) None)) (λ k. name_is b (drop k s))
    by z true u = refl
    by z false true = z
    by z false false = refl

    of : name_is (a ++ b) (drop (i + wide) s) ≡ followed (behind_at s (i + wide) a) (λ k. name_is b (drop k s)) → Dec (i < length s) → name_is (x ∷ (a ++ b)) (drop i s) ≡ followed (cond (ltb i (length s)) (cond (eqb (get_or s i 0) 0x22) None (cond (eqb (code_of (drop i s)) x) (behind_at s (i + wide) a) None)) None) (λ k. name_is b (drop k s))
    of z (yes h) = name-next s i x (a ++ b) h ∙ rw (lt-ltb i (length s) h) (by z (eqb (get_or s i 0) 0x22) (eqb (code_of (drop i s)) x))
    of z (no h) = name_out s i x (a ++ b) (omega arith) ∙ rw (le-ltb i (length s) (omega arith)) refl

pub name-whole : (s : List ℕ) (i : ℕ) (w : List ℕ) → name_is w (drop i s) ≡ followed (behind_at s i w) (λ k. name_is [] (drop k s))
name-whole s i w = ap (λ (v : List ℕ). name_is v (drop i s)) (sym (append-nil w)) ∙ name-parts s i w []

-- ---- by the grammar

hex-head : {l r : List ℕ} (h : G.Hex l r) → (b : ℕ) × (l ≡ b ∷ r) × (hex_value b ≡ hex_says h)
unfolding hex_value
hex-head (G.hex-digit (G.byte {b = b} h k)) = (b, refl, rw (lt-ltb b 0x3A (omega arith)))
hex-head (G.hex-big (G.byte {b = b} h k)) = (b, refl, rw (le-ltb b 0x3A (omega arith), lt-ltb b 0x47 (omega arith)))
hex-head (G.hex-small (G.byte {b = b} h k)) = (b, refl, rw (le-ltb b 0x3A (omega arith), le-ltb b 0x47 (omega arith)))

four-says :
    {l m n o r : List ℕ} {a b c d t u v w : ℕ} →
    l ≡ a ∷ m → m ≡ b ∷ n → n ≡ c ∷ o → o ≡ d ∷ r →
    hex_value a ≡ t → hex_value b ≡ u → hex_value c ≡ v → hex_value d ≡ w →
    four_of l ≡ ((t * 16 + u) * 16 + v) * 16 + w
unfolding four_of
four-says p q s t e f g h = rw (p, q, s, t, e, f, g, h)

-- what is behind the reverse solidus: its number, and how many bytes it has
escape-says : {l r : List ℕ} (x : G.Escape l r) → escape_of l ≡ escape_says x
unfolding escape_of escape_says four_of
escape-says G.esc-quote = refl
escape-says G.esc-reverse = refl
escape-says G.esc-solidus = refl
escape-says G.esc-b = refl
escape-says G.esc-f = refl
escape-says G.esc-n = refl
escape-says G.esc-r = refl
escape-says G.esc-t = refl
escape-says (G.esc-u a b c d) =
    let p = hex-head a in
    let q = hex-head b in
    let s = hex-head c in
    let t = hex-head d in
    four-says p.1 q.1 s.1 t.1 p.2 q.2 s.2 t.2

escape-long : {l r : List ℕ} (x : G.Escape l r) → (b : ℕ) → drop (escape_width l) (b ∷ l) ≡ r
unfolding escape_width
escape-long G.esc-quote b = refl
escape-long G.esc-reverse b = refl
escape-long G.esc-solidus b = refl
escape-long G.esc-b b = refl
escape-long G.esc-f b = refl
escape-long G.esc-n b = refl
escape-long G.esc-r b = refl
escape-long G.esc-t b = refl
escape-long (G.esc-u x y z u) b =
    let p = hex-head x in
    let q = hex-head y in
    let s = hex-head z in
    let t = hex-head u in
    rw (p.1, q.1, s.1, t.1)

-- a character in front of a text is no quotation mark; its number, if that is of ASCII, and how many bytes it has
record Reads (l r : List ℕ) (n : ℕ) : Type 0 where
  head : ℕ
  tail : List ℕ
  is : l ≡ head ∷ tail
  no-quote : head ≡ 0x22 → ⊥
  width : drop (width_of head tail) l ≡ r
  number : (x : ℕ) → x ≤ 0x7F → eqb (code_of l) x ≡ eqb n x

-- neither is of ASCII
beyond : (m n x : ℕ) → 0x80 ≤ m → 0x80 ≤ n → x ≤ 0x7F → eqb m x ≡ eqb n x
beyond m n x h k w = ne_eqb m x (λ e. omega arith) ∙ sym (ne_eqb n x (λ e. omega arith))

plain : (b : ℕ) (r : List ℕ) → 0x20 ≤ b → b ≤ 0x7F → (b ≡ 0x22 → ⊥) → (b ≡ 0x5C → ⊥) → Reads (b ∷ r) r b
unfolding width_of code_of
plain b r h k p q =
    record {
      head = b;
      tail = r;
      is = refl;
      no-quote = p;
      width = rw (ne_eqb b 0x5C q, lt-ltb b 0x80 (omega arith));
      number = λ x w. rw (ne_eqb b 0x5C q);
    }

-- a first byte of 2, 3 or 4
wide : (b : ℕ) (t r : List ℕ) (n : ℕ) → 0x80 ≤ b → 0x80 ≤ n → drop (width_of b t) (b ∷ t) ≡ r → Reads (b ∷ t) r n
unfolding code_of
wide b t r n h k e =
    record {
      head = b;
      tail = t;
      is = refl;
      no-quote = λ q. omega arith;
      width = e;
      number = λ x w. rw (ne_eqb b 0x5C (λ q. omega arith)) (beyond b n x h k w);
    }

width_two : (b c : ℕ) (r : List ℕ) → 0x80 ≤ b → b < 0xE0 → drop (width_of b (c ∷ r)) (b ∷ (c ∷ r)) ≡ r
unfolding width_of
width_two b c r h k = rw (ne_eqb b 0x5C (λ e. omega arith), le-ltb b 0x80 h, lt-ltb b 0xE0 k)

width_three : (a b c : ℕ) (r : List ℕ) → 0xE0 ≤ a → a < 0xF0 → drop (width_of a (b ∷ (c ∷ r))) (a ∷ (b ∷ (c ∷ r))) ≡ r
unfolding width_of
width_three a b c r h k = rw (ne_eqb a 0x5C (λ e. omega arith), le-ltb a 0x80 (omega arith), le-ltb a 0xE0 h, lt-ltb a 0xF0 k)

width_four : (a b c d : ℕ) (r : List ℕ) → 0xF0 ≤ a → drop (width_of a (b ∷ (c ∷ (d ∷ r)))) (a ∷ (b ∷ (c ∷ (d ∷ r)))) ≡ r
unfolding width_of
width_four a b c d r h = rw (ne_eqb a 0x5C (λ e. omega arith), le-ltb a 0x80 (omega arith), le-ltb a 0xE0 (omega arith), le-ltb a 0xF0 h)

escaped-reads : {l r : List ℕ} (x : G.Escape l r) → Reads (0x5C ∷ l) r (escape_says x)
unfolding width_of code_of
escaped-reads {l} x =
    record {
      head = 0x5C;
      tail = l;
      is = refl;
      no-quote = λ e. omega arith;
      width = escape-long x 0x5C;
      number = λ n w. ap (λ (m : ℕ). eqb m n) (escape-says x);
    }

char-reads : {l r : List ℕ} (c : G.Char l r) → Reads l r (char_says c)
unfolding char_says
char-reads (G.low (G.byte {b = b} {r = r} h k)) = plain b r h (omega arith) (λ e. omega arith) (λ e. omega arith)
char-reads (G.mid (G.byte {b = b} {r = r} h k)) = plain b r (omega arith) (omega arith) (λ e. omega arith) (λ e. omega arith)
char-reads (G.high (G.byte {b = b} {r = r} h k)) = plain b r (omega arith) k (λ e. omega arith) (λ e. omega arith)
char-reads (G.escaped x) = escaped-reads x
char-reads (G.two (G.byte {b = a} h k) (G.byte {b = b} {r = r} x y)) = wide a (b ∷ r) r _ (omega arith) (omega arith) (width_two a b r (omega arith) (omega arith))
char-reads (G.three-E0 (G.byte {b = a} h k) (G.byte {b = b} {r = r} x y)) = wide 0xE0 (a ∷ (b ∷ r)) r _ (omega arith) (omega arith) (width_three 0xE0 a b r (omega arith) (omega arith))
char-reads (G.three-E1 (G.byte {b = a} h k) (G.byte {b = b} x y) (G.byte {b = c} {r = r} u v)) = wide a (b ∷ (c ∷ r)) r _ (omega arith) (omega arith) (width_three a b c r (omega arith) (omega arith))
char-reads (G.three-ED (G.byte {b = a} h k) (G.byte {b = b} {r = r} x y)) = wide 0xED (a ∷ (b ∷ r)) r _ (omega arith) (omega arith) (width_three 0xED a b r (omega arith) (omega arith))
char-reads (G.three-EE (G.byte {b = a} h k) (G.byte {b = b} x y) (G.byte {b = c} {r = r} u v)) = wide a (b ∷ (c ∷ r)) r _ (omega arith) (omega arith) (width_three a b c r (omega arith) (omega arith))
char-reads (G.four-F0 (G.byte {b = a} h k) (G.byte {b = b} x y) (G.byte {b = c} {r = r} u v)) = wide 0xF0 (a ∷ (b ∷ (c ∷ r))) r _ (omega arith) (omega arith) (width_four 0xF0 a b c r (omega arith))
char-reads (G.four-F1 (G.byte {b = a} h k) (G.byte {b = b} x y) (G.byte {b = c} u v) (G.byte {b = d} {r = r} p q)) = wide a (b ∷ (c ∷ (d ∷ r))) r _ (omega arith) (omega arith) (width_four a b c d r (omega arith))
char-reads (G.four-F4 (G.byte {b = a} h k) (G.byte {b = b} x y) (G.byte {b = c} {r = r} u v)) = wide 0xF4 (a ∷ (b ∷ (c ∷ r))) r _ (omega arith) (omega arith) (width_four 0xF4 a b c r (omega arith))

-- one character of a name
name-char : {l r : List ℕ} {n : ℕ} (x : ℕ) (w : List ℕ) → x ≤ 0x7F → Reads l r n → name_is (x ∷ w) l ≡ (eqb n x && name_is w r)
name-char {l} {r} {n} x w h k =
    name-step x w l k.head k.tail k.is ∙ rw (ne_eqb k.head 0x22 k.no-quote, k.width, k.number x h)

name-over : {l r : List ℕ} {n : ℕ} → Reads l r n → name_is [] l ≡ false
unfolding name_is
name-over k = rw k.is (ne_eqb k.head 0x22 k.no-quote)

data Low : List ℕ → Type 0 where
  low-nil : Low []
  low-cons : {x : ℕ} {w : List ℕ} → x ≤ 0x7F → Low w → Low (x ∷ w)

low_of : (w : List ℕ) → ((j : ℕ) → get_or w j 0 ≤ 0x7F) → Low w
low_of [] h = low-nil
low_of (x ∷ w) h = low-cons (h zero) (low_of w (λ j. h (suc j)))

-- behind the quotation mark
name-law : {l q : List ℕ} (k : Chars l q) (w m : List ℕ) → q ≡ 0x22 ∷ m → Low w → name_is w l ≡ same (chars_say k) w
unfolding chars_say same name_is
name-law G.no-chars [] m e low-nil = rw e
name-law G.no-chars (x ∷ w) m e (low-cons h z) = rw e
name-law (G.chars c k) [] m e low-nil = name-over (char-reads c)
name-law (G.chars c k) (x ∷ w) m e (low-cons h z) = name-char x w h (char-reads c) ∙ ap (λ (t : Bool). eqb (char_says c) x && t) (name-law k w m e z)

pub name-says : {l m : List ℕ} (k : Chars l (0x22 ∷ m)) (w : List ℕ) → ((j : ℕ) → get_or w j 0 ≤ 0x7F) → name_is w l ≡ same (chars_say k) w
name-says {l} {m} k w h = name-law k w m refl (low_of w h)
