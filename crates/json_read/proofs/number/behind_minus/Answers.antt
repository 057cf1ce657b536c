-- `number::behind_minus` meets its contract. Assumes nothing.
use Rattle.json_read.specs.inner.Steps.{minus, no_minus}
use Rattle.json_read.proofs.number.behind_minus.Goals as goal

pub returns-then-s-at-eq45 : goal.returns-then-s-at-eq45
returns-then-s-at-eq45 c = minus c.if-s-at-eq45.true

pub returns : goal.returns
returns c = no_minus c.if-s-at-eq45.false
