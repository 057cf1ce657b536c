-- `pool::slice::slide` meets its contract: what is to be moved still, written over what was, is all of it moved. Assumes nothing.
use mathlib.Core.Path.{◌≡◌}
use mathlib.Core.Bool.{true}
use mathlib.Core.List.{List}
use Prim.Native.Nat.{ℕ, ◌≤◌, ◌-◌}
use lib.ListN.{length, drop, get_or}
use lib.Ieee.{Float}
use Rattle.buffers.specs.Region.{region, put}
use Rattle.pool_books.specs.declared.Held.{Held}
use Rattle.pool_books.specs.declared.Pool.{Pool}
use Rattle.pool_books.specs.Book.{entries, in_order, laid, joined}
use Rattle.pool.proofs.slice.slide.Given as goal

pub record Slid (p q : Pool) (s t : List Float) (at i : ℕ) : Type 0 where
  pub passed : i ≤ p.count
  pub same_len : q.len ≡ p.len
  pub same_count : q.count ≡ p.count
  pub long : length q.held ≡ length p.held
  pub as_long : length t ≡ length s
  pub ahead : (k : ℕ) (d : Held) → i ≤ k → get_or q.held k d ≡ get_or p.held k d
  pub behind : (x m : ℕ) → at ≤ x → region t x m ≡ region s x m
  pub order : in_order at (length s) (drop i (entries p)) ≡ true
  pub books : put q.held i (laid at (drop i (entries p))) ≡ put p.held 0 (laid 0 (entries p))
  pub vectors : put t at (joined s (drop i (entries p))) ≡ put s 0 (joined s (entries p))

abbrev pub invariant-loop-i : goal.invariant-loop-i
invariant-loop-i l = Slid l.initial.p l.p l.initial.s l.s l.to l.i
