-- `line::stop_of` meets its contract. Assumes nothing.
use Rattle.std.proofs.Common.{le-ltb, lt-ltb}
use Rattle.replay.specs.Line.{stop_of}
use Rattle.replay.proofs.line.stop_of.Goals as goal

pub returns-then-n-gt0 : goal.returns-then-n-gt0
unfolding stop_of
returns-then-n-gt0 c = simp (lt-ltb _ _ c.if-n-gt0.true)

pub returns-else-n-gt0 : goal.returns-else-n-gt0
unfolding stop_of
returns-else-n-gt0 c = simp (le-ltb _ _ c.if-n-gt0.false)
