-- The members of an object, one after another, and what is found of a name. Assumes nothing.
use Rattle.std.specs.Prelude.{◌≡◌, true, List, [], ◌∷◌, ℕ, ◌+◌, ◌-◌, ◌≤◌, ◌<◌, length, get_or, drop, Ok, Err, Option, None, Some}
use Rattle.json_grammar.specs.Grammar.{Ws, Value, Members}
use Rattle.json_grammar.specs.inner.Machine.{value, key, colon}
use Rattle.json_grammar.specs.inner.Steps.{place, Reads, Lexes, Skips}
use Rattle.json_grammar.specs.Judge.{Read}
use Rattle.json_read.specs.inner.Steps.{Parts}
use Rattle.json_read.specs.declared.value.Next.TheVariants as N
use Rattle.json_members.specs.Names.{Entry, members_of, entries_of, lookup}
use Rattle.json_members.specs.inner.Bytes.{quiet}
use Rattle.json_members.specs.declared.member.Member.{Member}

-- a member from `at` on: its name behind the quotation mark at q, its value from v to m
pub record Turn (s : List ℕ) (at d q v m : ℕ) : Type 0 where
  pub behind : ℕ
  pub name-is : Lexes s at (key ∷ (colon ∷ [])) (Ok behind)
  pub skipped : Skips s behind v
  pub value-is : Reads s v d (value ∷ []) (Ok m)
  pub quote-is : Skips s at q

-- the member from `at` on, where there is one
pub data Turns (s : List ℕ) (at d : ℕ) : Option Member → Type 0 where
  nameless : {r : Read} → Lexes s at (key ∷ (colon ∷ [])) r → (r ≡ Ok (place r) → ⊥) → Turns s at d None
  valueless : {n v : ℕ} {r : Read} → Lexes s at (key ∷ (colon ∷ [])) (Ok n) → Skips s n v → Reads s v d (value ∷ []) r → (r ≡ Ok (place r) → ⊥) → Turns s at d None
  unparted : {q v m j : ℕ} → Turn s at d q v m → Parts s m 0x7D (Err j) → Turns s at d None
  last : {q v m j : ℕ} → Turn s at d q v m → Parts s m 0x7D (Ok (N.Closed j)) → Turns s at d (Some (record { name = q + 1; value = v; next = None }))
  more : {q v m j : ℕ} → Turn s at d q v m → Parts s m 0x7D (Ok (N.More j)) → Turns s at d (Some (record { name = q + 1; value = v; next = Some j }))

-- ---- where a member's value stands; 0 where there is none

unfoldable pub place_of : List ℕ → Option Entry → ℕ
place_of s None = 0
place_of s (Some e) = length s - length e.from

-- a name of ASCII
abbrev pub Ascii : List ℕ → Type 0
Ascii w = (j : ℕ) → get_or w j 0 ≤ 0x7F

-- behind the bracket that opens an object
pub record Finds (s : List ℕ) (at d : ℕ) (w : List ℕ) (n : ℕ) : Type 0 where
  pub empty : (l m : List ℕ) → drop at s ≡ l → Ws l (0x7D ∷ m) → n ≡ 0
  pub members : (k : ℕ) (l m : List ℕ) → drop at s ≡ l → k ≤ d → Ascii w → (v : Members k l (0x7D ∷ m)) → n ≡ place_of s (lookup w (members_of v))

-- at a value: the place of its last member of the name w, where it is an object that has one
pub record Gets (s : List ℕ) (at d : ℕ) (w : List ℕ) (n : ℕ) : Type 0 where
  pub value : (k : ℕ) (l e : List ℕ) → drop at s ≡ l → k ≤ d → Ascii w → (v : Value k l e) → n ≡ place_of s (lookup w (entries_of v))

-- what is found of a value with k levels stands at its place, behind the first byte, and has fewer
pub data Stands (s : List ℕ) (k : ℕ) : Option Entry → Type 0 where
  nowhere : Stands s k None
  somewhere : {e : Entry} → 0 < place_of s (Some e) → drop (place_of s (Some e)) s ≡ e.from → quiet e.to ≡ true → e.level < k → Stands s k (Some e)
