-- `entry::describe` meets its contract. Assumes nothing.
use Rattle.weights.proofs.Entries.{no-entry, an-entry}
use Rattle.weights.proofs.entry.describe.Goals as goal

pub returns-then-at-eq0 : goal.returns-then-at-eq0
returns-then-at-eq0 c = no-entry c.args.h.now c.args.at c.if-at-eq0.true

pub returns : goal.returns
returns c = an-entry c.args.h.now c.args.at c.get.ensures c.get-2.ensures c.get-3.ensures c.if-at-eq0.false c.dtype_at-dtype.ensures c.sizes_at-shape.ensures c.sizes_at-offsets.ensures c.made.ensures
