-- `record::back_place` meets its contract: its tests are the definition's. Assumes nothing.
use borrow.Author.Tests.{le-ltb, lt-ltb, eq-eqb, ne_eqb}
use native.Mathlib.Omega.{arith}
use Rattle.picture_replay.specs.Record.{back_place}
use Rattle.picture_replay.proofs.record.back_place.Goals as goal

pub returns-then-b-lt9 : goal.returns-then-b-lt9
unfolding back_place
returns-then-b-lt9 c = (simp (c.if-same.true, lt-ltb _ _ c.if-b-lt9.true), omega arith)

pub returns-then-b-eq19 : goal.returns-then-b-eq19
unfolding back_place
returns-then-b-eq19 c = (simp (c.if-same.true, le-ltb _ _ c.if-b-lt9.false, eq-eqb _ _ c.if-b-eq19.true), omega arith)

pub returns-else-b-eq19 : goal.returns-else-b-eq19
unfolding back_place
returns-else-b-eq19 c = (simp (c.if-same.true, le-ltb _ _ c.if-b-lt9.false, ne_eqb _ _ c.if-b-eq19.false), omega arith)

pub returns-else-same : goal.returns-else-same
unfolding back_place
returns-else-same c = (simp c.if-same.false, omega arith)
