-- `record::first` meets its contract. Assumes nothing.
use borrow.Author.Tests.{not-true, not-false}
use native.Mathlib.Omega.{arith}
use native.Mathlib.Nat.{add-sub_cancel_left}
use mathlib.Core.Path.{sym, subst}
use lib.Seq.{length-take-le}
use Rattle.weights_replay.specs.Record.{Steps}
use Rattle.weights_replay.proofs.Records.{step-bad, step_cut, step-whole}
use Rattle.weights_replay.proofs.record.first.Goals as goal

pub slice_bounds-read_line-end : goal.slice_bounds-read_line-end
slice_bounds-read_line-end c = sym (length-take-le _ _ c.piece_len-at.ensures.within)

pub returns-then-not-read_line : goal.returns-then-not-read_line
returns-then-not-read_line c =
    let e = c.cut_short.ensures in
    (subst (Steps _) (sym e) (step-bad _ c.read_line.new.to c.piece_len-at.result c.read_line.result c.piece_len-at.ensures.first c.read_line.ensures.whole (not-true _ c.if-not-read_line.true-raw)), rw e (omega arith), rw e (omega arith))

pub returns-then-text-at : goal.returns-then-text-at
returns-then-text-at c =
    let e = c.cut_short-then-text-at.ensures in
    (subst (Steps _) (sym e) (step_cut _ c.read_line.new.to c.piece_len-at.result c.read_line.result c.piece_len-at.ensures.first c.read_line.ensures.whole c.read_line.ensures.output (not-false _ c.if-not-read_line.false-raw) c.if-text-at.true), rw e (omega arith), rw e (omega arith))

pub slice_bounds-report-end : goal.slice_bounds-report-end
slice_bounds-report-end c = sym (length-take-le _ _ c.piece_len-at.ensures.within)

pub returns : goal.returns
returns c =
    (step-whole _ c.read_line.new.to c.piece_len-at.result c.read_line.result c.piece_len-at.ensures.first c.read_line.ensures.whole c.read_line.ensures.output (not-false _ c.if-not-read_line.false-raw) _ (omega arith) (rw (add-sub_cancel_left c.piece_len-at.result _) at c.judge-same.ensures), omega arith, omega arith)
