-- `pool::keys::leave_out` meets its contract: what is still to be moved, written over what was, is what is left. Assumes nothing.
use mathlib.Core.Path.{◌≡◌}
use Prim.Native.Nat.{ℕ, suc, ◌-◌, ◌≤◌, ◌<◌}
use lib.ListN.{length, drop, get_or}
use Rattle.buffers.specs.Region.{put}
use Rattle.pool_books.specs.declared.Held.{Held}
use Rattle.pool_books.specs.declared.Pool.{Pool}
use Rattle.pool_books.specs.Book.{entries}
use Rattle.pool_books.specs.inner.Place.{left_out}
use Rattle.pool.proofs.keys.leave_out.Given as goal

-- what is to be moved still, written over what was, is what is left; what is behind is as it was
pub record Left (p q : Pool) (i j last : ℕ) : Type 0 where
  pub low : i ≤ j
  pub high : j ≤ last
  pub same_len : q.len ≡ p.len
  pub long : length q.held ≡ length p.held
  pub ahead : (k : ℕ) (d : Held) → j < k → get_or q.held k d ≡ get_or p.held k d
  pub left : put q.held j (drop (suc j) (entries p)) ≡ put p.held 0 (left_out i (entries p))

abbrev pub invariant-loop-j : goal.invariant-loop-j
invariant-loop-j l = Left l.initial.p l.p l.i l.j l.last
