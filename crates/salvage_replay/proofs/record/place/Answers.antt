-- `record::place` meets its contract: its tests are the definition's. Assumes nothing.
use borrow.Author.Tests.{le-ltb, lt-ltb, eq-eqb, ne_eqb}
use native.Mathlib.Omega.{arith}
use mathlib.Core.Path.{sym, ◌∙◌}
use Rattle.salvage_replay.specs.Record.{place_of}
use Rattle.salvage_replay.proofs.record.place.Goals as goal

pub returns-then-m-lt9 : goal.returns-then-m-lt9
unfolding place_of
returns-then-m-lt9 c = (simp (sym c.same.ensures ∙ c.if-same.true, lt-ltb _ _ c.if-m-lt9.true), omega arith)

pub returns-then-m-eq19 : goal.returns-then-m-eq19
unfolding place_of
returns-then-m-eq19 c =
    (simp (sym c.same.ensures ∙ c.if-same.true, le-ltb _ _ c.if-m-lt9.false, eq-eqb _ _ c.if-m-eq19.true), omega arith)

pub returns-then-m-eq21 : goal.returns-then-m-eq21
unfolding place_of
returns-then-m-eq21 c =
    (simp (sym c.same.ensures ∙ c.if-same.true, le-ltb _ _ c.if-m-lt9.false, ne_eqb _ _ c.if-m-eq19.false, eq-eqb _ _ c.if-m-eq21.true), omega arith)

pub returns-else-m-eq21 : goal.returns-else-m-eq21
unfolding place_of
returns-else-m-eq21 c =
    (simp (sym c.same.ensures ∙ c.if-same.true, le-ltb _ _ c.if-m-lt9.false, ne_eqb _ _ c.if-m-eq19.false, ne_eqb _ _ c.if-m-eq21.false), omega arith)

pub returns-else-same : goal.returns-else-same
unfolding place_of
returns-else-same c = (simp (sym c.same.ensures ∙ c.if-same.false), omega arith)
