-- What the functions answer. Assumes nothing.
use Rattle.std.specs.Prelude.{◌≡◌, cond, List, [], ◌∷◌, ℕ, ◌+◌, ◌-◌, ◌≤◌, eqb, length, get_or, drop, Result, Ok, Err}
use Rattle.json_grammar.specs.inner.Machine.{Class, lowest, highest, Sym, range, chars, natural, frac, exp, go, after}
use Rattle.json_grammar.specs.Judge.{Read}
use Rattle.json_grammar.specs.inner.Steps.{seen, place, Lexes, skip}
use Rattle.json_read.specs.declared.value.Next.{Next}
use Rattle.json_read.specs.declared.value.Next.TheVariants as N

-- n is behind a minus that stands at `at`, or there is none
pub data Minus (s : List ℕ) (at : ℕ) : ℕ → Type 0 where
  minus : get_or s at 0 ≡ 0x2D → Minus s at (at + 1)
  no_minus : (get_or s at 0 ≡ 0x2D → ⊥) → Minus s at at

-- the digits of a number from `at` to n: what may follow them is read behind
pub record Whole (s : List ℕ) (at n : ℕ) : Type 0 where
  pub same : (d : ℕ) → go d (natural ∷ []) (drop at s) ≡ go d (frac ∷ (exp ∷ [])) (drop n s)
  pub low : at ≤ n
  pub high : n ≤ at + (length s - at)

-- a byte from low to high, and then α
pub record Reaches (s : List ℕ) (at low high : ℕ) (α : List Sym) (r : Read) : Type 0 where
  pub of : (c : Class) → lowest c ≡ low → highest c ≡ high → Lexes s at (range c ∷ α) r

-- one character of a string: the others are read behind it
pub record Char (s : List ℕ) (at : ℕ) (r : Read) : Type 0 where
  pub same : (d : ℕ) → after (seen s r) (go d (chars ∷ [])) ≡ go d (chars ∷ []) (drop at s)
  pub low : at ≤ place r
  pub high : place r ≤ at + (length s - at)
  pub falls : (n : ℕ) → r ≡ Ok n → at + 1 ≤ n

-- ---- what parts elements

pub data Sep : Type 0 where
  more closed wrong : List ℕ → Sep

abbrev pub sep_of : ℕ → List ℕ → Sep
sep_of c [] = wrong []
sep_of c (b ∷ l) = cond (eqb b 0x2C) (more l) (cond (eqb b c) (closed l) (wrong (b ∷ l)))

-- a comma or the byte c, behind blanks
unfoldable pub separate : ℕ → List ℕ → Sep
separate c l = sep_of c (skip l)

-- what is behind, or the place where neither stands
abbrev pub Part : Type 0
Part = Result Next ℕ

abbrev pub parted : List ℕ → Part → Sep
parted s (Ok (N.More n)) = more (drop n s)
parted s (Ok (N.Closed n)) = closed (drop n s)
parted s (Err n) = wrong (drop n s)

abbrev pub part_place : Part → ℕ
part_place (Ok (N.More n)) = n
part_place (Ok (N.Closed n)) = n
part_place (Err n) = n

pub record Parts (s : List ℕ) (at close : ℕ) (r : Part) : Type 0 where
  pub same : parted s r ≡ separate close (drop at s)
  pub low : at ≤ part_place r
  pub high : part_place r ≤ at + (length s - at)
  pub falls : (m : ℕ) → r ≡ Ok (N.More m) → (at + 1 ≤ m) × (m ≤ length s)
