-- What a test of the bookkeeping says, and the answer of each call behind it. Assumes nothing.
use mathlib.Core.Path.{◌≡◌, refl, sym, ap}
use mathlib.Core.Bool.{Bool, true, false, cond}
use Prim.Native.Nat.{ℕ, ◌≤◌, ◌<◌}
use native.Mathlib.Omega.{arith}
use lib.ListN.{length}
use Rattle.picture_limits.specs.declared.Refusal as F
use Rattle.pool_books.specs.declared.Pool.{Pool}
use Rattle.std.specs.Prelude.{Ok, Err, Option, Some, None}
use Rattle.pool_books.specs.Lookup.{place}
use Rattle.pool_books.specs.declared.Books.{Books}
use Rattle.pool_books.specs.Book.{entries, with, floats, end_of, well_made, has, key_of}
use Rattle.pool.specs.Pool.{refused, done, find_answer, drop_answer}
use Rattle.pool_books.specs.Lookup.{lookup, found_start, found_len}
use Rattle.pool_books.specs.inner.Place.{place_in, left_out, books_in, books_of}
use Rattle.pool_books.proofs.Orders.{length-entries}
use Rattle.pool.proofs.Lookups.{place-held, place_none, held_at, none-lookup, place-without}

pub record Told (p : Pool) (n k sum end place start len : ℕ) : Type 0 where
  pub made : well_made p n ≡ true
  pub sums : sum ≡ floats (entries p)
  pub ends : end ≡ end_of 0 (entries p)
  pub stands : place ≡ place_in k (entries p)
  pub starts : start ≡ found_start (lookup k (entries p))
  pub long : len ≡ found_len (lookup k (entries p))

pub told : (p : Pool) (n k : ℕ) (b : Books) → books_of p n k ≡ Some b → Told p n k b.floats b.end b.place b.start b.len
unfolding books_of
told p n k b e = go (well_made p n) refl e
  where
    go : (t : Bool) → well_made p n ≡ t → cond t (Some (books_in p k)) None ≡ Some b → Told p n k b.floats b.end b.place b.start b.len
    go true m f = record { made = m; sums = cc; ends = cc; stands = cc; starts = cc; long = cc }
    go false m f = let z : ◌≡◌ {A = ℕ} 0 1 = cc in absurd (omega arith)

pub untold : (p : Pool) (n k : ℕ) → books_of p n k ≡ None → well_made p n ≡ false
unfolding books_of
untold p n k e = go (well_made p n) refl e
  where
    go : (t : Bool) → well_made p n ≡ t → ◌≡◌ {A = Option Books} (cond t (Some (books_in p k)) None) None → t ≡ false
    go true m f = let z : ◌≡◌ {A = ℕ} 0 1 = cc in absurd (omega arith)
    go false m f = refl

-- ---- find and drop, by the place of the key

pub find-unmade : (p : Pool) (n k : ℕ) → well_made p n ≡ false → Err F.Refusal.PoolSlice ≡ find_answer p n k
unfolding find_answer
find-unmade p n k e = rw e

pub drop-unmade : (p : Pool) (n k : ℕ) → well_made p n ≡ false → refused p F.Refusal.PoolSlice ≡ drop_answer p n k
unfolding drop_answer
drop-unmade p n k e = rw e

module _ (p : Pool) (n k i : ℕ) (w : p.count ≤ length p.held) (m : well_made p n ≡ true) (e : i ≡ place_in k (entries p)) where
  pub held-there : i < p.count → has key_of k (entries p) ≡ true
  held-there l = place-held k (entries p) (omega (arith, length-entries p w))

  pub held-nowhere : p.count ≤ i → has key_of k (entries p) ≡ false
  held-nowhere l = place_none k (entries p) (omega (arith, length-entries p w))

  pub find-held : (start len : ℕ) → start ≡ found_start (lookup k (entries p)) → len ≡ found_len (lookup k (entries p)) → i < p.count → Ok (place start len) ≡ find_answer p n k
  unfolding find_answer
  find-held start len f g l = rw (m, f, g) (sym (held_at k (entries p) (held-there l)))

  pub find-unknown : p.count ≤ i → Err F.Refusal.KeyUnknown ≡ find_answer p n k
  unfolding find_answer
  find-unknown l = rw m (sym (none-lookup k (entries p) (held-nowhere l)))

  pub drop-held : i < p.count → done (with p (left_out i (entries p))) ≡ drop_answer p n k
  unfolding drop_answer
  drop-held l = rw (m, held-there l, ← place-without k (entries p)) (ap (λ (j : ℕ). done (with p (left_out j (entries p)))) e)

  pub drop-unknown : p.count ≤ i → refused p F.Refusal.KeyUnknown ≡ drop_answer p n k
  unfolding drop_answer
  drop-unknown l = rw (m, held-nowhere l)
