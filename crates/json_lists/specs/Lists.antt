-- What a list of plain digits says, by the grammar. Assumes nothing.
use Rattle.std.specs.Prelude.{cond, List, [], ◌∷◌, ℕ, ◌*◌, ◌^◌, ltb, length, get_or, Option, None, Some}
use Rattle.json_grammar.specs.Grammar as G
use Rattle.json_grammar.specs.Grammar.{Value, Elements}
use Rattle.json_members.specs.Names.{size_of}
use Rattle.json_lists.specs.declared.Sizes.{Sizes}

-- a number in front of others, where there are both
abbrev pub joined : Option ℕ → Option (List ℕ) → Option (List ℕ)
joined None o = None
joined (Some n) None = None
joined (Some n) (Some ns) = Some (n ∷ ns)

-- the sizes of a list's elements: none where one is anything but plain digits of at most 2^64 - 1
unfoldable pub element_sizes : {d : ℕ} {l r : List ℕ} → Elements d l r → Option (List ℕ)
element_sizes (G.element w v u) = joined (size_of v) (Some [])
element_sizes (G.elements w v u k) = joined (size_of v) (element_sizes k)

-- those of any value: none where it is no list
unfoldable pub sizes_of : {d : ℕ} {l r : List ℕ} → Value d l r → Option (List ℕ)
sizes_of G.value-false = None
sizes_of G.value-null = None
sizes_of G.value-true = None
sizes_of (G.number k) = None
sizes_of (G.string k) = None
sizes_of (G.empty-array w) = Some []
sizes_of (G.array k) = element_sizes k
sizes_of (G.empty-object w) = None
sizes_of (G.object k) = None

-- the product of numbers, exactly; 1 of none
unfoldable pub product : List ℕ → ℕ
product [] = 1
product (n ∷ ns) = n * product ns

-- a number, or 0 where it is above 2^64 - 1
unfoldable pub held : ℕ → ℕ
held n = cond (ltb n (2 ^ 64)) n 0

-- how many numbers, the first two of them, 0 where there is none, and their product
unfoldable pub sums_of : List ℕ → Sizes
sums_of ns = record { count = length ns; first = get_or ns 0 0; second = get_or ns 1 0; product = held (product ns) }

-- the same of numbers that there may be
unfoldable pub said_of : Option (List ℕ) → Option Sizes
said_of None = None
said_of (Some ns) = Some (sums_of ns)
