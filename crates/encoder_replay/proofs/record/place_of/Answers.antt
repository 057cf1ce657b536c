-- `record::place_of` meets its contract: its tests are the definition's. Assumes nothing.
use borrow.Author.Tests.{le-ltb, lt-ltb}
use native.Mathlib.Omega.{arith}
use Rattle.encoder_replay.specs.Record.{counted_at}
use Rattle.encoder_replay.proofs.record.place_of.Goals as goal

pub returns-then-a-lt23 : goal.returns-then-a-lt23
unfolding counted_at
returns-then-a-lt23 c = (simp (c.if-same.true, lt-ltb _ _ c.if-a-lt23.true), omega arith)

pub returns-else-a-lt23 : goal.returns-else-a-lt23
unfolding counted_at
returns-else-a-lt23 c = (simp (c.if-same.true, le-ltb _ _ c.if-a-lt23.false), omega arith)

pub returns-else-same : goal.returns-else-same
unfolding counted_at
returns-else-same c = (simp c.if-same.false, omega arith)
