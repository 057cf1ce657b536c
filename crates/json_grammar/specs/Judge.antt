-- What the answers of the reader say of a text, by the grammar alone. Assumes nothing.
use Rattle.std.specs.Prelude.{◌≡◌, List, [], ◌∷◌, ◌++◌, ◌⊎◌, ℕ, suc, ◌≤◌, ◌<◌, length, get_or, take, drop, Result, Ok, Err}
use Rattle.json_grammar.specs.Grammar.{Text}
use Rattle.json_grammar.specs.declared.scan.Fault.{Fault}
use Rattle.json_grammar.specs.declared.scan.Fault.TheVariants as F

-- what is behind, or why no text goes on there
abbrev pub Read : Type 0
Read = Result ℕ Fault

-- the bytes p begin a text of at most d levels
abbrev pub Begins : ℕ → List ℕ → Type 0
Begins d p = (c : List ℕ) × Text d (p ++ c)

-- both have ended, or they have the same first byte
pub data Alike : List ℕ → List ℕ → Type 0 where
  both_end : Alike [] []
  same_byte : {b : ℕ} {l m : List ℕ} → Alike (b ∷ l) (b ∷ m)

-- up to byte n a text of at most d levels agrees; with byte n, or the end there, no text agrees, of any depth
pub record Stopped (d : ℕ) (s : List ℕ) (n : ℕ) : Type 0 where
  pub inside : n ≤ length s
  pub begins : Begins d (take n s)
  pub refused : (k : ℕ) (c : List ℕ) → Alike (drop n s) c → Text k (take n s ++ c) → ⊥

-- byte n is a bracket; up to it a text of at most d levels agrees; with it none does, and one of d + 1 levels does
pub record Deepened (d : ℕ) (s : List ℕ) (n : ℕ) : Type 0 where
  pub inside : n < length s
  pub bracket : (get_or s n 0 ≡ 0x5B) ⊎ (get_or s n 0 ≡ 0x7B)
  pub begins : Begins d (take n s)
  pub deeper : Begins (suc d) (take (suc n) s)
  pub refused : Begins d (take (suc n) s) → ⊥

-- The answer of a reader that takes at most d levels, for the bytes s: they are such a text; or they are none, and it
-- stops at byte n, or a level too many is opened there
unfoldable pub Judged : ℕ → List ℕ → Read → Type 0
Judged d s (Ok n) = (n ≡ length s) × Text d s
Judged d s (Err (F.Stop n)) = Stopped d s n
Judged d s (Err (F.Deep n)) = Deepened d s n
