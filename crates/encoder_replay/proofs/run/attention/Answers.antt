-- `run::attention` meets its contract: its test is the definition's. Assumes nothing.
use borrow.Author.Tests.{eq-eqb, ne_eqb}
use Rattle.encoder_replay.proofs.run.attention.Goals as goal

pub returns-then-plain-eq1 : goal.returns-then-plain-eq1
returns-then-plain-eq1 c = rw (eq-eqb _ _ c.if-plain-eq1.true)

pub returns : goal.returns
returns c = rw (ne_eqb _ _ c.if-plain-eq1.false)
