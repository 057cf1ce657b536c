-- `record::first` meets its contract. Assumes nothing.
use native.Mathlib.Omega.{arith}
use native.Mathlib.Nat.{add-sub_cancel_left}
use Rattle.tally.proofs.Tallies.{judged-inside}
use Rattle.config_replay.proofs.Records.{step-short, step_cut, step-whole}
use Rattle.config_replay.proofs.record.first.Goals as goal

pub returns-then-text-lt66 : goal.returns-then-text-lt66
returns-then-text-lt66 c = (step-short _ c.if-text-lt66.true, tt)

pub returns-then-text-n : goal.returns-then-text-n
returns-then-text-n c = (step_cut _ _ (omega arith) c.field-n.ensures.0 c.if-text-n.true, tt)

pub returns : goal.returns
returns c = rw c.judged.ensures (step-whole _ _ (omega arith) c.field-n.ensures.0 _ (omega arith) (rw (add-sub_cancel_left 66 _) at c.judge.ensures), judged-inside _ _ _ (omega arith) (omega arith))
