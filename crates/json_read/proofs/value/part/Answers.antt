-- `value::part` meets its contract. Assumes nothing.
use Rattle.json_read.proofs.Values.{part_end, part-more, part-closed, part-wrong}
use Rattle.json_read.proofs.value.part.Goals as goal

pub returns-then-s-i : goal.returns-then-s-i
returns-then-s-i c = part_end c.blank-i.ensures c.if-s-i.true

pub returns-then-b-eq44 : goal.returns-then-b-eq44
returns-then-b-eq44 c = part-more c.blank-i.ensures c.if-s-i.false c.if-b-eq44.true

pub returns-then-b-close : goal.returns-then-b-close
returns-then-b-close c = part-closed c.blank-i.ensures c.if-s-i.false c.if-b-eq44.false c.if-b-close.true

pub returns : goal.returns
returns c = part-wrong c.blank-i.ensures c.if-s-i.false c.if-b-eq44.false c.if-b-close.false
