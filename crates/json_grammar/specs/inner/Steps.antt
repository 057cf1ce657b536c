-- What the functions answer. Assumes nothing.
use Rattle.std.specs.Prelude.{◌≡◌, Bool, cond, ◌&&◌, ◌||◌, List, [], ◌∷◌, ℕ, ◌+◌, ◌-◌, ◌≤◌, eqb, leb, length, drop, Ok, Err}
use Rattle.json_grammar.specs.inner.Machine.{Sym, one, Out, past, stop, deep, go}
use Rattle.json_grammar.specs.Judge.{Read}
use Rattle.json_grammar.specs.declared.scan.Fault.TheVariants as F

-- ---- a byte

abbrev pub is_blank : ℕ → Bool
is_blank b = eqb b 0x20 || (eqb b 0x09 || (eqb b 0x0A || eqb b 0x0D))

abbrev pub is_digit : ℕ → Bool
is_digit b = leb 0x30 b && leb b 0x39

-- a fraction or an exponent begins so
abbrev pub is_more : ℕ → Bool
is_more b = eqb b 0x2E || (eqb b 0x65 || eqb b 0x45)

-- ---- places

abbrev pub seen : List ℕ → Read → Out
seen s (Ok n) = past (drop n s)
seen s (Err (F.Stop n)) = stop (drop n s)
seen s (Err (F.Deep n)) = deep (drop n s)

abbrev pub place : Read → ℕ
place (Ok n) = n
place (Err (F.Stop n)) = n
place (Err (F.Deep n)) = n

-- where what is left of s begins
unfoldable pub located : List ℕ → Out → Read
located s (past l) = Ok (length s - length l)
located s (stop l) = Err (F.Stop (length s - length l))
located s (deep l) = Err (F.Deep (length s - length l))

-- from `at` on α is read, with at most d brackets open
pub record Reads (s : List ℕ) (at d : ℕ) (α : List Sym) (r : Read) : Type 0 where
  pub same : seen s r ≡ go d α (drop at s)
  pub low : at ≤ place r
  pub high : place r ≤ at + (length s - at)

-- α has no bracket, so the limit is any
pub record Lexes (s : List ℕ) (at : ℕ) (α : List Sym) (r : Read) : Type 0 where
  pub same : (d : ℕ) → seen s r ≡ go d α (drop at s)
  pub low : at ≤ place r
  pub high : place r ≤ at + (length s - at)

abbrev pub LexesTo : List ℕ → ℕ → List Sym → ℕ → Type 0
LexesTo s at α n = Lexes s at α (Ok n)

unfoldable pub letters : List ℕ → List Sym
letters [] = []
letters (b ∷ w) = one b ∷ letters w

-- behind blanks
unfoldable pub skip : List ℕ → List ℕ
skip [] = []
skip (b ∷ l) = cond (is_blank b) (skip l) (b ∷ l)

pub record Skips (s : List ℕ) (at n : ℕ) : Type 0 where
  pub same : drop n s ≡ skip (drop at s)
  pub low : at ≤ n
  pub high : n ≤ at + (length s - at)
