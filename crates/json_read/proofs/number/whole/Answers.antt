-- `number::whole` meets its contract. Assumes nothing.
use Rattle.json_read.proofs.Numbers.{whole-zero, whole-more}
use Rattle.json_read.proofs.number.whole.Goals as goal

pub returns-then-s-at-eq48 : goal.returns-then-s-at-eq48
returns-then-s-at-eq48 c = whole-zero c.requires.0 c.if-s-at-eq48.true

pub returns : goal.returns
returns c = whole-more c.requires.0 c.requires.1 c.if-s-at-eq48.false c.digits.ensures
