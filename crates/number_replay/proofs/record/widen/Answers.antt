-- `record::widen` meets its contract: at the letter w the definition asks the same test. Assumes nothing.
use borrow.Author.Tests.{le-ltb, lt-ltb}
use mathlib.Core.Path.{ap}
use Rattle.number_replay.specs.Records.{answer_of}
use Rattle.std.specs.Prelude.{Some}
use Rattle.number_replay.proofs.record.widen.Goals as goal

pub returns-then-input-lt65536 : goal.returns-then-input-lt65536
unfolding answer_of
returns-then-input-lt65536 c = simp (lt-ltb _ _ c.if-input-lt65536.true) (ap Some c.bf16_widen.ensures)

pub returns-else-input-lt65536 : goal.returns-else-input-lt65536
unfolding answer_of
returns-else-input-lt65536 c = simp (le-ltb _ _ c.if-input-lt65536.false)
