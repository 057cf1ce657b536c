-- `record::first` meets its contract: too short, cut, or whole. Assumes nothing.
use native.Mathlib.Omega.{arith}
use native.Mathlib.Nat.{add-sub_cancel_left}
use mathlib.Core.Path.{◌∙◌}
use Rattle.unpatch_replay.proofs.Records.{step-short, step_cut, step-whole}
use Rattle.unpatch_replay.proofs.record.first.Goals as goal

-- src/record.rt:67:9
pub returns-then-text-lt12 : goal.returns-then-text-lt12
returns-then-text-lt12 c =
    let e = c.cut_short.ensures in
    (e ∙ step-short _ c.if-text-lt12.true, rw e (omega arith), rw e (omega arith))

-- src/record.rt:72:9
pub returns-then-text-n : goal.returns-then-text-n
returns-then-text-n c =
    let e = c.cut_short-then-text-n.ensures in
    (e ∙ step_cut _ _ _ (omega arith) c.size-n.ensures.0 c.size-m.ensures.0 c.if-text-n.true, rw e (omega arith), rw e (omega arith))

-- src/record.rt:62:1
pub returns : goal.returns
returns c =
    (step-whole _ _ _ (omega arith) c.size-n.ensures.0 c.size-m.ensures.0 _ (omega arith) (rw (add-sub_cancel_left 12 _, add-sub_cancel_left _ _) at c.judge.ensures), omega arith, omega arith)
