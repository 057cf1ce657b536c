-- `record::place` meets its contract: its tests are the definition's. Assumes nothing.
use borrow.Author.Tests.{eq-eqb, ne_eqb, leb-true}
use native.Mathlib.Omega.{arith}
use mathlib.Core.Path.{◌≡◌, sym, ◌∙◌}
use mathlib.Core.Bool.{true, ◌&&◌}
use Prim.Native.Nat.{ℕ, ◌≤◌}
use lib.Dec.{leb}
use Rattle.buffers.proofs.Lists.{and_left, and_right}
use Rattle.pool_replay.specs.Record.{place_of}
use Rattle.pool_replay.proofs.record.place.Goals as goal

within : (n : ℕ) → leb 23 n && leb n 27 ≡ true → (23 ≤ n) × (n ≤ 27)
within n e = (leb-true 23 n (and_left (leb 23 n) (leb n 27) e), leb-true n 27 (and_right (leb 23 n) (leb n 27) e))

pub returns-then-m-eq0 : goal.returns-then-m-eq0
unfolding place_of
returns-then-m-eq0 c = (simp (sym c.same.ensures ∙ c.if-same.true, eq-eqb _ _ c.if-m-eq0.true), omega arith)

pub overflow_sub-result : goal.overflow_sub-result
overflow_sub-result c = let n = c.args.m.number in omega (arith, within n c.if-m.true)

pub returns-then-m : goal.returns-then-m
unfolding place_of
returns-then-m c =
    let n = c.args.m.number in
    let w = within n c.if-m.true in
    (simp (sym c.same.ensures ∙ c.if-same.true, ne_eqb _ _ c.if-m-eq0.false, c.if-m.true), omega arith)

pub returns-else-m : goal.returns-else-m
unfolding place_of
returns-else-m c = (simp (sym c.same.ensures ∙ c.if-same.true, ne_eqb _ _ c.if-m-eq0.false, c.if-m.false), omega arith)

pub returns-else-same : goal.returns-else-same
unfolding place_of
returns-else-same c = (simp (sym c.same.ensures ∙ c.if-same.false), omega arith)
