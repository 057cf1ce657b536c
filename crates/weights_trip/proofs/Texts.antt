-- Names of plain characters, decimal numbers and lists of them are strings, numbers and arrays of the grammar, and say what was
-- written. Assumes nothing.
use Rattle.std.specs.Prelude.{Some}
use mathlib.Core.Path.{◌≡◌, refl, ap, ◌∙◌}
use mathlib.Core.Bool.{Bool, true, false, cond, ◌&&◌}
use mathlib.Core.List.{List, [], ◌∷◌, ◌++◌, append_assoc}
use Prim.Native.Nat.{ℕ, zero, suc, ◌+◌, ◌-◌, ◌*◌, ◌/◌, ◌%◌, ◌^◌, ◌≤◌, ◌<◌}
use native.Mathlib.Omega.{arith}
use lib.Dec.{leb, ltb}
use borrow.Author.Tests.{leb-true, ltb-true, ltb-false, lt-ltb}
use Rattle.buffers.proofs.Lists.{and_left, and_right}
use Rattle.json_grammar.specs.Grammar as G
use Rattle.json_grammar.specs.Grammar.{Range, Digits, Int, Value, Str, Chars}
use Rattle.json_members.specs.Names.{byte_of, char_says, chars_say, str_says, digits_say, int_says, limited, number_size, size_of}
use Rattle.json_lists.specs.Lists.{element_sizes, sizes_of}
use Rattle.tensor_header.specs.Tensors.{last_digits, decimal}

-- ---- strings

-- ASCII from # on, without the reverse solidus: a string has these as they are
pub data Letters : List ℕ → Type 0 where
  no-letters : Letters []
  mid : {x : ℕ} {w : List ℕ} → 0x23 ≤ x → x ≤ 0x5B → Letters w → Letters (x ∷ w)
  high : {x : ℕ} {w : List ℕ} → 0x5D ≤ x → x ≤ 0x7F → Letters w → Letters (x ∷ w)

pub letters-both : {a b : List ℕ} → Letters a → Letters b → Letters (a ++ b)
letters-both no-letters y = y
letters-both (mid h k x) y = mid h k (letters-both x y)
letters-both (high h k x) y = high h k (letters-both x y)

-- a test that computes
abbrev pub lettered : List ℕ → Bool
lettered [] = true
lettered (x ∷ w) = cond (leb x 0x5B) (leb 0x23 x) (leb 0x5D x && leb x 0x7F) && lettered w

pub letters : (w : List ℕ) → lettered w ≡ true → Letters w
letters [] h = no-letters
letters (x ∷ w) h = of (leb x 0x5B) refl (and_left (cond (leb x 0x5B) (leb 0x23 x) (leb 0x5D x && leb x 0x7F)) (lettered w) h) (letters w (and_right (cond (leb x 0x5B) (leb 0x23 x) (leb 0x5D x && leb x 0x7F)) (lettered w) h))
  where
    of : (t : Bool) → leb x 0x5B ≡ t → cond t (leb 0x23 x) (leb 0x5D x && leb x 0x7F) ≡ true → Letters w → Letters (x ∷ w)
    of true e g k = mid (leb-true 0x23 x g) (leb-true x 0x5B e) k
    of false e g k = high (leb-true 0x5D x (and_left (leb 0x5D x) (leb x 0x7F) g)) (leb-true x 0x7F (and_right (leb 0x5D x) (leb x 0x7F) g)) k

record Spelt (l r w : List ℕ) : Type 0 where
  pub chars : Chars l r
  pub says : chars_say chars ≡ w

spelt : {w : List ℕ} → Letters w → (r : List ℕ) → Spelt (w ++ r) r w
unfolding chars_say char_says
spelt no-letters r = record { chars = G.no-chars; says = refl }
spelt (mid {x = x} h k p) r = let q = spelt p r in record { chars = G.chars (G.mid (G.byte h k)) q.chars; says = ap (λ (w : List ℕ). x ∷ w) q.says }
spelt (high {x = x} h k p) r = let q = spelt p r in record { chars = G.chars (G.high (G.byte h k)) q.chars; says = ap (λ (w : List ℕ). x ∷ w) q.says }

-- a string that says w
pub record Named (l r w : List ℕ) : Type 0 where
  pub str : Str l r
  pub says : str_says str ≡ w

pub named : {w : List ℕ} → Letters w → (r : List ℕ) → Named (0x22 ∷ (w ++ (0x22 ∷ r))) r w
named p r = let q = spelt p (0x22 ∷ r) in record { str = G.str q.chars; says = q.says }

-- ---- numbers

more : {l m r : List ℕ} → Digits l m → Range 0x30 0x39 m r → Digits l r
more G.no-digits b = G.digits b G.no-digits
more (G.digits c k) b = G.digits c (more k b)

more-says : {l m r : List ℕ} (n : ℕ) (k : Digits l m) (b : Range 0x30 0x39 m r) → digits_say n (more k b) ≡ digits_say n k * 10 + (byte_of b - 0x30)
unfolding more digits_say
more-says n G.no-digits b = refl
more-says n (G.digits c k) b = more-says (n * 10 + (byte_of c - 0x30)) k b

-- digits of which the first is not 0
record Counted (l r : List ℕ) (n : ℕ) : Type 0 where
  pub behind : List ℕ
  pub lead : Range 0x31 0x39 l behind
  pub rest : Digits behind r
  pub says : digits_say (byte_of lead - 0x30) rest ≡ n

-- with one digit more
longer : {l r : List ℕ} {m : ℕ} (n x : ℕ) → 0x30 ≤ x → x ≤ 0x39 → n ≡ m * 10 + (x - 0x30) → Counted l (x ∷ r) m → Counted l r n
longer n x h k e q =
    let b = G.byte h k in
    let says = more-says (byte_of q.lead - 0x30) q.rest b in
    record { behind = q.behind; lead = q.lead; rest = more q.rest b; says = omega (arith, says, q.says) }

counted : (k n : ℕ) (r : List ℕ) → n < k → 0 < n → Counted (last_digits k n ++ r) r n
unfolding last_digits digits_say
counted zero n r h p = absurd (omega arith)
counted (suc k) n r h p = of (ltb n 10) refl (counted k (n / 10) ((48 + n % 10) ∷ r))
  where
    of : (t : Bool) → ltb n 10 ≡ t → (n / 10 < k → 0 < n / 10 → Counted (last_digits k (n / 10) ++ ((48 + n % 10) ∷ r)) ((48 + n % 10) ∷ r) (n / 10)) → Counted (cond t ((48 + n) ∷ []) (last_digits k (n / 10) ++ ((48 + n % 10) ∷ [])) ++ r) r n
    of true e f = let g = ltb-true n 10 e in record { behind = r; lead = G.byte {b = 48 + n} (omega arith) (omega arith); rest = G.no-digits; says = omega arith }
    of false e f =
        let g = ltb-false n 10 e in
        rw append_assoc (longer n (48 + n % 10) (omega arith) (omega arith) (omega arith) (f (omega arith) (omega arith)))

-- an int that says n
pub record Whole (l r : List ℕ) (n : ℕ) : Type 0 where
  pub int : Int l r
  pub says : int_says int ≡ n

pub whole : (n : ℕ) (r : List ℕ) → Whole (decimal n ++ r) r n
unfolding last_digits
whole zero r = record { int = G.zero-int; says = refl }
whole (suc n) r = let q = counted (suc (suc n)) (suc n) r (omega arith) (omega arith) in record { int = G.int q.lead q.rest; says = q.says }

-- a value that is the size n
pub record Size (d : ℕ) (l r : List ℕ) (n : ℕ) : Type 0 where
  pub value : Value d l r
  pub says : size_of value ≡ Some n

pub size : (d n : ℕ) (r : List ℕ) → n < 2 ^ 64 → Size d (decimal n ++ r) r n
unfolding size_of number_size
size d n r h =
    let q = whole n r in
    record { value = G.number (G.positive (G.natural q.int G.no-frac G.no-exp)); says = ap limited q.says ∙ rw (lt-ltb n (2 ^ 64) h) refl }

-- ---- lists

-- an array of the sizes ns
pub record Sizes (d : ℕ) (l r ns : List ℕ) : Type 0 where
  pub value : Value d l r
  pub says : sizes_of value ≡ Some ns

pub one : (d n : ℕ) (r : List ℕ) → n < 2 ^ 64 → Sizes (suc d) (0x5B ∷ (decimal n ++ (0x5D ∷ r))) r (n ∷ [])
unfolding sizes_of element_sizes
one d n r h =
    let q = size d n (0x5D ∷ r) h in
    record { value = G.array (G.element G.unspaced q.value G.unspaced); says = rw q.says refl }

pub two : (d a b : ℕ) (r : List ℕ) → a < 2 ^ 64 → b < 2 ^ 64 → Sizes (suc d) (0x5B ∷ (decimal a ++ (0x2C ∷ (decimal b ++ (0x5D ∷ r))))) r (a ∷ (b ∷ []))
unfolding sizes_of element_sizes
two d a b r h k =
    let p = size d a (0x2C ∷ (decimal b ++ (0x5D ∷ r))) h in
    let q = size d b (0x5D ∷ r) k in
    record { value = G.array (G.elements G.unspaced p.value G.unspaced (G.element G.unspaced q.value G.unspaced)); says = rw (p.says, q.says) refl }
