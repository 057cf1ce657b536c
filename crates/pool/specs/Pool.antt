-- What each call of a pool answers, and what it leaves in the slice, for every input. Assumes nothing.
use Rattle.std.specs.Prelude.{Bool, not, ◌&&◌, cond, List, [], ◌∷◌, ◌++◌, ℕ, ◌+◌, eqb, leb, ltb, length, replicate, Float, Result, Ok, Err}
use Rattle.buffers.specs.Region.{put}
use Rattle.picture_limits.specs.declared.Refusal as F
use Rattle.picture_limits.specs.Refusal as R
use Rattle.picture_limits.specs.Refusal.{unless}
use Rattle.pool_books.specs.declared.Held.{Held}
use Rattle.pool_books.specs.declared.Pool.{Pool}
use Rattle.pool_books.specs.declared.Place.{Place}
use Rattle.pool_books.specs.Lookup.{lookup}
use Rattle.pool_books.specs.Book.{held, entries, with, floats, end_of, well_made, laid, joined, has, without, key_of}

-- whether a call is done, and the pool after it
abbrev pub Outcome : Type 0
Outcome = Result (Unit {0}) F.Refusal

pub record Pooled : Type 0 where
  pub outcome : Outcome
  pub pool : Pool

abbrev pub pooled : Outcome → Pool → Pooled
pooled o p = record { outcome = o; pool = p }

-- ---- new: for a slice of n floats, nothing held

abbrev pub new_pool : ℕ → Pool
new_pool n = record { len = n; count = 0; held = replicate 64 (held 0 0 0) }

-- a refusal leaves the pool as it was
abbrev pub refused : Pool → F.Refusal → Pooled
refused p r = pooled (Err r) p

abbrev pub done : Pool → Pooled
done p = pooled (Ok tt) p

-- ---- add

-- there is room for m floats more behind the last of the held results, in a slice of n
abbrev pub room_behind : Pool → ℕ → ℕ → Bool
room_behind p n m = leb (end_of 0 (entries p) + m) n

-- the held results before m floats more are put behind them: slid down to the front, one right behind the other, only
-- where the room behind the last does not suffice; and the slice then
abbrev pub ready : Pool → ℕ → ℕ → List Held
ready p n m = cond (room_behind p n m) (entries p) (laid 0 (entries p))

abbrev pub ready_slice : Pool → List Float → ℕ → List Float
ready_slice p s m = cond (room_behind p (length s) m) s (put s 0 (joined s (entries p)))

-- the new vectors stand right behind the last of them
abbrev pub behind : Pool → ℕ → ℕ → ℕ
behind p n m = end_of 0 (ready p n m)

unfoldable pub add_answer : Pool → List Float → ℕ → List Float → Pooled
add_answer p s k vs =
    unless (well_made p (length s)) (refused p F.Refusal.PoolSlice)
    (unless (not (has key_of k (entries p))) (refused p F.Refusal.KeyHeld)
    (unless (not (eqb (length vs) 0)) (refused p F.Refusal.NoVectors)
    (unless (ltb p.count 64 && leb (floats (entries p) + length vs) (length s)) (refused p F.Refusal.PoolFull)
    (done (with p (ready p (length s) (length vs) ++ (held k (behind p (length s) (length vs)) (length vs) ∷ [])))))))

-- the slice after the call, by its outcome
abbrev pub left_of : Outcome → List Float → List Float → List Float
left_of (Ok u) new old = new
left_of (Err r) new old = old

abbrev pub add_slice : Pool → List Float → ℕ → List Float → List Float
add_slice p s k vs = left_of (add_answer p s k vs).outcome (put (ready_slice p s (length vs)) (behind p (length s) (length vs)) vs) s

-- ---- find: where the vectors of the key stand

unfoldable pub find_answer : Pool → ℕ → ℕ → Result Place F.Refusal
find_answer p n k = unless (well_made p n) (Err F.Refusal.PoolSlice) (lookup k (entries p))

-- ---- drop: no float is moved

unfoldable pub drop_answer : Pool → ℕ → ℕ → Pooled
drop_answer p n k =
    unless (well_made p n) (refused p F.Refusal.PoolSlice)
    (unless (has key_of k (entries p)) (refused p F.Refusal.KeyUnknown)
    (done (with p (without key_of k (entries p)))))

-- ---- the paper's number of an answer

abbrev pub number : Outcome → ℕ
number (Ok u) = 0
number (Err r) = R.number r
