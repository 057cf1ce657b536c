-- `entry::get` meets its contract. Assumes nothing.
use mathlib.Core.Path.{refl}
use Rattle.json_members.proofs.Finding.{gets-end, gets-other, gets-object}
use Rattle.weights.proofs.entry.get.Goals as goal

pub returns-then-h-at : goal.returns-then-h-at
returns-then-h-at c = gets-end c.if-h-at.true

pub returns-then-h-at-ne123 : goal.returns-then-h-at-ne123
returns-then-h-at-ne123 c = gets-other c.if-h-at.false c.if-h-at-ne123.true

pub returns : goal.returns
returns c = gets-object refl c.if-h-at.false c.if-h-at-ne123.false c.get_in.ensures
