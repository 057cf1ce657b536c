-- Lists of plain digits, read off the bytes. Assumes nothing.
use Rattle.std.specs.Prelude.{cond, List, [], ◌∷◌, ℕ, ◌+◌, ◌-◌, ◌*◌, eqb, Option, None, Some}
use Rattle.json_grammar.specs.inner.Steps.{is_blank, is_digit, skip}
use Rattle.json_members.specs.Names.{limited}
use Rattle.json_lists.specs.Lists.{joined, said_of}
use Rattle.json_lists.specs.declared.Sizes.{Sizes}

-- a number is awaited; the digits of n were read; a number is behind
pub data Mode : Type 0 where
  awaited : Mode
  reading : ℕ → Mode
  behind : Mode

-- the byte b behind a number: a blank, a comma or the bracket that closes
abbrev pub parting : ℕ → Option (List ℕ) → Option (List ℕ) → Option (List ℕ)
parting b blank comma = cond (is_blank b) blank (cond (eqb b 0x2C) comma (cond (eqb b 0x5D) (Some []) None))

-- the numbers up to the bracket that closes
unfoldable pub numbers_from : Mode → List ℕ → Option (List ℕ)
numbers_from m [] = None
numbers_from awaited (b ∷ l) = cond (is_blank b) (numbers_from awaited l) (cond (is_digit b) (numbers_from (reading (b - 0x30)) l) None)
numbers_from (reading n) (b ∷ l) =
    cond (is_digit b) (numbers_from (reading (n * 10 + (b - 0x30))) l) (joined (limited n) (parting b (numbers_from behind l) (numbers_from awaited l)))
numbers_from behind (b ∷ l) = parting b (numbers_from behind l) (numbers_from awaited l)

-- behind the bracket that opens and blanks
unfoldable pub opened : List ℕ → Option (List ℕ)
opened [] = None
opened (b ∷ l) = cond (eqb b 0x5D) (Some []) (numbers_from awaited (b ∷ l))

-- the numbers of the list in front
unfoldable pub numbers_at : List ℕ → Option (List ℕ)
numbers_at [] = None
numbers_at (b ∷ l) = cond (eqb b 0x5B) (opened (skip l)) None

-- what is said of them
abbrev pub list_at : List ℕ → Option Sizes
list_at l = said_of (numbers_at l)
