-- What is true after any calls since the pool was made. Statements; proofs/Since.antt proves them. Assumes nothing.
use Rattle.std.specs.Prelude.{◌≡◌, Bool, true, false, not, ◌&&◌, cond, List, [], ◌∷◌, ℕ, ◌+◌, ◌-◌, ◌<◌, leb, ltb, length, Float, Ok, Err}
use Rattle.buffers.specs.Region.{region}
use Rattle.picture_limits.specs.declared.Refusal as F
use Rattle.pool_books.specs.declared.Held.{Held}
use Rattle.pool_books.specs.declared.Pool.{Pool}
use Rattle.pool_books.specs.Book.{entries, floats, well_made, has, key_of}
use Rattle.pool.specs.Pool.{Outcome, new_pool, add_answer, add_slice, find_answer, drop_answer}
use Rattle.pool_books.specs.Lookup.{place, found_len}
use Rattle.pool.specs.Map.{Whole}

-- ---- a pool since it was made for a slice of n floats, whatever slices the calls were lent; find leaves it as it was

-- n where the call was accepted
abbrev pub if_done : Outcome → ℕ → ℕ
if_done (Ok u) n = n
if_done (Err r) n = 0

-- a floats were added, and d were dropped: of a key, as many as find reports of it
pub data Since (n : ℕ) : Pool → ℕ → ℕ → Type 0 where
  new : Since n (new_pool n) 0 0
  add : {p : Pool} {a d : ℕ} → Since n p a d → (s : List Float) (k : ℕ) (vs : List Float)
      → Since n (add_answer p s k vs).pool (a + if_done (add_answer p s k vs).outcome (length vs)) d
  drop : {p : Pool} {a d : ℕ} → Since n p a d → (s : List Float) (k : ℕ)
      → Since n (drop_answer p (length s) k).pool a (d + if_done (drop_answer p (length s) k).outcome (found_len (find_answer p (length s) k)))

-- no two of them have one key
unfoldable pub differ : List Held → Bool
differ [] = true
differ (h ∷ hs) = not (has key_of h.key hs) && differ hs

-- 1. Floats held equal those added less those dropped; 27 is given exactly for a slice of another length; no key is held twice
pub record Sound (n : ℕ) (p : Pool) (a d : ℕ) : Type 0 where
  pub balance : floats (entries p) + d ≡ a
  pub whole : Whole p
  pub made : well_made p n ≡ true
  pub other : (m : ℕ) → (m ≡ n → ⊥) → well_made p m ≡ false
  pub keys : differ (entries p) ≡ true

abbrev pub Balance : Type 0
Balance = (n : ℕ) (p : Pool) (a d : ℕ) → Since n p a d → Sound n p a d

-- 2. 25 exactly when 64 are held, or floats held plus new ones exceed the slice, however the held ones lie
abbrev pub Full : Type 0
Full = (n : ℕ) (p : Pool) (a d : ℕ) → Since n p a d → (s : List Float) (k : ℕ) (vs : List Float)
    → length s ≡ n → has key_of k (entries p) ≡ false → 0 < length vs
    → (add_answer p s k vs).outcome ≡ cond (ltb p.count 64 && leb (a - d + length vs) n) (Ok tt) (Err F.Refusal.PoolFull)

-- 3. A key that was dropped is unknown
abbrev pub Gone : Type 0
Gone = (n : ℕ) (p : Pool) (a d : ℕ) → Since n p a d → (k : ℕ)
    → (drop_answer p n k).outcome ≡ Ok tt
    → find_answer (drop_answer p n k).pool n k ≡ Err F.Refusal.KeyUnknown

-- 4. A refused call leaves pool and slice, and so the map, as they were; of any pool
abbrev pub AddMoves : Type 0
AddMoves = (p : Pool) (s : List Float) (k : ℕ) (vs : List Float) (r : F.Refusal)
    → (add_answer p s k vs).outcome ≡ Err r → ((add_answer p s k vs).pool ≡ p) × (add_slice p s k vs ≡ s)

abbrev pub DropMoves : Type 0
DropMoves = (p : Pool) (n k : ℕ) (r : F.Refusal) → (drop_answer p n k).outcome ≡ Err r → (drop_answer p n k).pool ≡ p

-- ---- where every call lends the slice that the pool was made for, and only the pool writes it: pool and slice

pub data Lent (n : ℕ) : Pool → List Float → Type 0 where
  new : (s : List Float) → length s ≡ n → Lent n (new_pool n) s
  add : {p : Pool} {s : List Float} → Lent n p s → (k : ℕ) (vs : List Float) → Lent n (add_answer p s k vs).pool (add_slice p s k vs)
  drop : {p : Pool} {s : List Float} → Lent n p s → (k : ℕ) → Lent n (drop_answer p (length s) k).pool s

-- vs were added under the key k, which was not dropped since
pub data Kept (n k : ℕ) (vs : List Float) : Pool → List Float → Type 0 where
  added : {p : Pool} {s : List Float} → Lent n p s → (add_answer p s k vs).outcome ≡ Ok tt → Kept n k vs (add_answer p s k vs).pool (add_slice p s k vs)
  add : {p : Pool} {s : List Float} → Kept n k vs p s → (j : ℕ) (ws : List Float) → Kept n k vs (add_answer p s j ws).pool (add_slice p s j ws)
  drop : {p : Pool} {s : List Float} → Kept n k vs p s → (j : ℕ) → (j ≡ k → ⊥) → Kept n k vs (drop_answer p (length s) j).pool s

-- 5. Find hands back the vectors that were added, until the key is dropped
pub record Gives (p : Pool) (s : List Float) (k : ℕ) (vs : List Float) : Type 0 where
  pub at : ℕ
  pub found : find_answer p (length s) k ≡ Ok (place at (length vs))
  pub vectors : region s at (length vs) ≡ vs

abbrev pub Keeps : Type 0
Keeps = (n k : ℕ) (vs : List Float) (p : Pool) (s : List Float) → Kept n k vs p s → Gives p s k vs
