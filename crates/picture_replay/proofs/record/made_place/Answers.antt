-- `record::made_place` meets its contract: its tests are the definition's. Assumes nothing.
use borrow.Author.Tests.{le-ltb, lt-ltb, eq-eqb, ne_eqb}
use native.Mathlib.Omega.{arith}
use Rattle.picture_replay.specs.Record.{made_place}
use Rattle.picture_replay.proofs.record.made_place.Goals as goal

pub returns-then-m-lt6 : goal.returns-then-m-lt6
unfolding made_place
returns-then-m-lt6 c = (simp (c.if-same.true, lt-ltb _ _ c.if-m-lt6.true), omega arith)

pub returns-then-m-eq19 : goal.returns-then-m-eq19
unfolding made_place
returns-then-m-eq19 c = (simp (c.if-same.true, le-ltb _ _ c.if-m-lt6.false, eq-eqb _ _ c.if-m-eq19.true), omega arith)

pub returns-else-m-eq19 : goal.returns-else-m-eq19
unfolding made_place
returns-else-m-eq19 c = (simp (c.if-same.true, le-ltb _ _ c.if-m-lt6.false, ne_eqb _ _ c.if-m-eq19.false), omega arith)

pub returns-else-same : goal.returns-else-same
unfolding made_place
returns-else-same c = (simp c.if-same.false, omega arith)
