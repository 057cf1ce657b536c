-- `replay::count` meets its contract. Assumes nothing.
use mathlib.Core.Path.{refl}
use Rattle.unpatch_replay.proofs.replay.count.Goals as goal

-- src/replay.rt:17:9
pub returns-then-same : goal.returns-then-same
returns-then-same c = rw c.if-same.true refl

-- src/replay.rt:12:1
pub returns : goal.returns
returns c = rw c.if-same.false refl
