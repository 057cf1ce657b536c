-- What a pool stands for: the results that it holds, each a key with its vectors, in the order of adding; and each call as a
-- step on them. Statements; proofs/Steps.antt proves them. Assumes nothing.
use Rattle.std.specs.Prelude.{◌≡◌, true, not, ◌&&◌, cond, List, [], ◌∷◌, ◌++◌, ℕ, ◌+◌, ◌≤◌, eqb, leb, ltb, length, Float}
use Rattle.buffers.specs.Region.{region}
use Rattle.picture_limits.specs.Refusal.{unless}
use Rattle.pool_books.specs.declared.Held.{Held}
use Rattle.pool_books.specs.declared.Pool.{Pool}
use Rattle.pool_books.specs.Book.{entries, well_made, has, without}
use Rattle.pool.specs.Pool.{add_answer, add_slice, find_answer, drop_answer, number}
use Rattle.pool_books.specs.Lookup.{found_number, found_start, found_len}

-- the number of a sweep, and its token vectors
pub record Result : Type 0 where
  pub key : ℕ
  pub vectors : List Float

abbrev pub result : ℕ → List Float → Result
result k vs = record { key = k; vectors = vs }

abbrev pub key_in : Result → ℕ
key_in r = r.key

-- what pool and slice stand for
unfoldable pub results : List Float → List Held → List Result
results s [] = []
results s (h ∷ hs) = result h.key (region s h.start h.len) ∷ results s hs

abbrev pub map_of : Pool → List Float → List Result
map_of p s = results s (entries p)

-- how many floats they have
unfoldable pub size : List Result → ℕ
size [] = 0
size (r ∷ rs) = length r.vectors + size rs

-- the vectors of a key; none where it is not held
unfoldable pub vectors_in : ℕ → List Result → List Float
vectors_in k [] = []
vectors_in k (r ∷ rs) = cond (eqb r.key k) r.vectors (vectors_in k rs)

-- ---- the steps, of a pool for a slice of n floats: the number of each call, and the map after it

unfoldable pub add_number : ℕ → List Result → ℕ → List Float → ℕ
add_number n m k vs =
    unless (not (has key_in k m)) 23
    (unless (not (eqb (length vs) 0)) 24
    (unless (ltb (length m) 64 && leb (size m + length vs) n) 25 0))

abbrev pub add_step : ℕ → List Result → ℕ → List Float → List Result
add_step n m k vs = cond (eqb (add_number n m k vs) 0) (m ++ (result k vs ∷ [])) m

-- of find and of drop
abbrev pub key_number : List Result → ℕ → ℕ
key_number m k = unless (has key_in k m) 26 0

-- where no result has the key, all are left
abbrev pub drop_step : List Result → ℕ → List Result
drop_step m k = without key_in k m

-- ---- each call answers by the map and leaves a pool, and a slice, that stand for the map after it

-- true of every pool by its type: the bookkeeping has 64 places
abbrev pub Whole : Pool → Type 0
Whole p = length p.held ≡ 64

pub record Adds (p : Pool) (s : List Float) (k : ℕ) (vs : List Float) : Type 0 where
  pub number_is : number (add_answer p s k vs).outcome ≡ add_number (length s) (map_of p s) k vs
  pub map_is : map_of (add_answer p s k vs).pool (add_slice p s k vs) ≡ add_step (length s) (map_of p s) k vs
  pub whole : Whole (add_answer p s k vs).pool
  pub made : well_made (add_answer p s k vs).pool (length s) ≡ true
  pub as_long : length (add_slice p s k vs) ≡ length s

abbrev pub AddSteps : Type 0
AddSteps = (p : Pool) (s : List Float) (k : ℕ) (vs : List Float) → Whole p → well_made p (length s) ≡ true → Adds p s k vs

pub record Drops (p : Pool) (s : List Float) (k : ℕ) : Type 0 where
  pub number_is : number (drop_answer p (length s) k).outcome ≡ key_number (map_of p s) k
  pub map_is : map_of (drop_answer p (length s) k).pool s ≡ drop_step (map_of p s) k
  pub whole : Whole (drop_answer p (length s) k).pool
  pub made : well_made (drop_answer p (length s) k).pool (length s) ≡ true

abbrev pub DropSteps : Type 0
DropSteps = (p : Pool) (s : List Float) (k : ℕ) → Whole p → well_made p (length s) ≡ true → Drops p s k

-- what find hands back lies inside the slice, and is the vectors of the key
pub record Finds (p : Pool) (s : List Float) (k : ℕ) : Type 0 where
  pub number_is : found_number (find_answer p (length s) k) ≡ key_number (map_of p s) k
  pub inside : found_start (find_answer p (length s) k) + found_len (find_answer p (length s) k) ≤ length s
  pub vectors-are : region s (found_start (find_answer p (length s) k)) (found_len (find_answer p (length s) k)) ≡ vectors_in k (map_of p s)

abbrev pub FindSteps : Type 0
FindSteps = (p : Pool) (s : List Float) (k : ℕ) → Whole p → well_made p (length s) ≡ true → Finds p s k
