-- `record::lent` meets its contract. Assumes nothing.
use native.Mathlib.Omega.{arith}
use borrow.Author.Tests.{lt-ltb, le-ltb}
use Rattle.weights_replay.proofs.record.lent.Goals as goal

pub returns-then-n-lt2048 : goal.returns-then-n-lt2048
returns-then-n-lt2048 c = (simp (lt-ltb _ _ c.if-n-lt2048.true), omega arith)

pub returns : goal.returns
returns c = (simp (le-ltb _ _ c.if-n-lt2048.false), omega arith)
