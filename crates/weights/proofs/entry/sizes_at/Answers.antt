-- `entry::sizes_at` meets its contract. Assumes nothing.
use Rattle.weights.proofs.Entries.{no-list, a-list}
use Rattle.weights.proofs.entry.sizes_at.Goals as goal

pub returns-then-at-eq0 : goal.returns-then-at-eq0
returns-then-at-eq0 c = no-list c.args.h.now c.args.at c.if-at-eq0.true

pub returns : goal.returns
returns c = a-list c.args.h.now c.args.at c.if-at-eq0.false _ c.read_sizes.ensures
