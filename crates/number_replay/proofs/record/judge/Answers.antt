-- `record::judge` meets its contract: the tests on the way are those of `verdict_of`. Assumes nothing.
use borrow.Author.Tests.{eq-eqb, ne_eqb}
use Rattle.number_replay.specs.Records.{verdict_of}
use Rattle.number_replay.proofs.record.judge.Goals as goal

pub returns-then-line-ne20 : goal.returns-then-line-ne20
unfolding verdict_of
returns-then-line-ne20 c = simp (ne_eqb _ _ c.if-line-ne20.true)

pub returns-then-line-ne32 : goal.returns-then-line-ne32
unfolding verdict_of
returns-then-line-ne32 c = simp (eq-eqb _ _ c.if-line-ne20.false, ne_eqb _ _ c.if-line-ne32.true)

pub returns-then-line-ne32-2 : goal.returns-then-line-ne32-2
unfolding verdict_of
returns-then-line-ne32-2 c =
    simp (eq-eqb _ _ c.if-line-ne20.false, eq-eqb _ _ c.if-line-ne32.false, ne_eqb _ _ c.if-line-ne32-2.true)

pub returns-then-line-ne10 : goal.returns-then-line-ne10
unfolding verdict_of
returns-then-line-ne10 c =
    simp (eq-eqb _ _ c.if-line-ne20.false, eq-eqb _ _ c.if-line-ne32.false, eq-eqb _ _ c.if-line-ne32-2.false, ne_eqb _ _ c.if-line-ne10.true)

pub returns : goal.returns
unfolding verdict_of
returns c =
    simp (eq-eqb _ _ c.if-line-ne20.false, eq-eqb _ _ c.if-line-ne32.false, eq-eqb _ _ c.if-line-ne32-2.false, eq-eqb _ _ c.if-line-ne10.false)
    (cc (c.compare.ensures, c.read_hex-answered.ensures, c.read_hex-input.ensures))
