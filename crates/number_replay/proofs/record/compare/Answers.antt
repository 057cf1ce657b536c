-- `record::compare` meets its contract: at each `return` the values that were bound say which case holds. Assumes nothing.
use borrow.Author.Tests.{eq-eqb, ne_eqb}
use Rattle.number_replay.specs.Records.{besides, verdict_from}
use Rattle.number_replay.proofs.record.compare.Goals as goal

pub returns-in_default : goal.returns-in_default
unfolding verdict_from besides
returns-in_default c = rw c.in_default.is

pub returns-in_default-answered : goal.returns-in_default-answered
unfolding verdict_from besides
returns-in_default-answered c = rw (c.in-Some.is, c.in_default-answered.is)

pub returns-in_default-answer : goal.returns-in_default-answer
unfolding verdict_from besides
returns-in_default-answer c =
    rw (c.in-Some.is, c.in-Some-answered.is, ← c.answer.ensures, c.in_default-answer.is)

pub returns-then-ours-rust : goal.returns-then-ours-rust
unfolding verdict_from besides
returns-then-ours-rust c =
    rw (c.in-Some.is, c.in-Some-answered.is, ← c.answer.ensures, c.in-Some-answer.is)
    (simp (eq-eqb _ _ c.if-ours-rust.true))

pub returns-else-ours-rust : goal.returns-else-ours-rust
unfolding verdict_from besides
returns-else-ours-rust c =
    rw (c.in-Some.is, c.in-Some-answered.is, ← c.answer.ensures, c.in-Some-answer.is)
    (simp (ne_eqb _ _ c.if-ours-rust.false))
