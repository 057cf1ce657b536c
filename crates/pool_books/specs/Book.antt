-- The bookkeeping of a pool: which keys it holds, and where in the slice their vectors stand. Assumes nothing.
use Rattle.std.specs.Prelude.{Bool, false, ◌&&◌, ◌||◌, cond, List, [], ◌∷◌, ◌++◌, ℕ, ◌+◌, eqb, leb, length, take, Float}
use Rattle.buffers.specs.Region.{region, put}
use Rattle.pool_books.specs.declared.Held.{Held}
use Rattle.pool_books.specs.declared.Pool.{Pool}

-- the key, and the place of its vectors: the n floats from index at on
abbrev pub held : ℕ → ℕ → ℕ → Held
held k at n = record { key = k; start = at; len = n }

-- what is held, in the order of adding
abbrev pub entries : Pool → List Held
entries p = take p.count p.held

-- p where these are held; what the bookkeeping has behind them is kept
abbrev pub with : Pool → List Held → Pool
with p es = record { len = p.len; count = length es; held = put p.held 0 es }

-- how many floats they have
unfoldable pub floats : List Held → ℕ
floats [] = 0
floats (h ∷ hs) = h.len + floats hs

-- where the last one ends; at where there is none
unfoldable pub end_of : ℕ → List Held → ℕ
end_of at [] = at
end_of at (h ∷ hs) = end_of (h.start + h.len) hs

-- none starts before the one before it ends, the first not before at, and the last ends inside n
unfoldable pub in_order : ℕ → ℕ → List Held → Bool
in_order at n [] = leb at n
in_order at n (h ∷ hs) = leb at h.start && in_order (h.start + h.len) n hs

-- a pool for a slice of n floats: it was made for that length, holds at most 64, and has them in order inside
unfoldable pub well_made : Pool → ℕ → Bool
well_made p n = eqb p.len n && leb p.count 64 && in_order 0 n (entries p)

-- the same, one right behind the other from at on
unfoldable pub laid : ℕ → List Held → List Held
laid at [] = []
laid at (h ∷ hs) = held h.key at h.len ∷ laid (at + h.len) hs

-- their vectors in the slice s, joined
unfoldable pub joined : List Float → List Held → List Float
joined s [] = []
joined s (h ∷ hs) = region s h.start h.len ++ joined s hs

-- ---- by key, of what has one: the first that has it counts

module _ {A : Type 0} (key : A → ℕ) where
  unfoldable pub has : ℕ → List A → Bool
  has k [] = false
  has k (a ∷ l) = eqb (key a) k || has k l

  unfoldable pub without : ℕ → List A → List A
  without k [] = []
  without k (a ∷ l) = cond (eqb (key a) k) l (a ∷ without k l)

abbrev pub key_of : Held → ℕ
key_of h = h.key
