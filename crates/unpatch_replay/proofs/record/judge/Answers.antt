-- `record::judge` meets its contract: what unpatch left is held to the answer that is wanted. Assumes nothing.
use native.Mathlib.Omega.{arith}
use Prim.Native.Nat.{ℕ, ◌≤◌}
use mathlib.Core.Path.{◌≡◌, sym}
use lib.ListN.{length, take, replicate, length-replicate}
use lib.Seq.{length-take-le}
use Rattle.unpatch_form.specs.Words.{same}
use Rattle.unpatch_text.specs.Answer.{answer}
use Rattle.unpatch_text.proofs.Left.{length-inside}
use Rattle.unpatch_replay.proofs.Records.{same_by, left}
use Rattle.unpatch_replay.proofs.record.judge.Goals as goal

-- src/record.rt:43:26
pub slice_bounds-out-end : goal.slice_bounds-out-end
slice_bounds-out-end c =
    let inside : c.unpatch-n.result ≤ length c.unpatch-n.new.out = rw (c.unpatch-n.ensures.answer, c.unpatch-n.auto.out) (length-inside c.args.input.now (replicate 25094 0)) in
    inside

-- src/record.rt:43:26
pub slice_bounds-same-end : goal.slice_bounds-same-end
slice_bounds-same-end c =
    let inside : c.unpatch-n.result ≤ length c.unpatch-n.new.out = rw (c.unpatch-n.ensures.answer, c.unpatch-n.auto.out) (length-inside c.args.input.now (replicate 25094 0)) in
    sym (length-take-le _ _ (inside))

-- src/record.rt:38:1
pub returns-then-not-ok : goal.returns-then-not-ok
returns-then-not-ok c =
    let judged : c.same-ok.result ≡ same (answer c.args.input.now) c.args.want.now = let e : take c.unpatch-n.result c.unpatch-n.new.out ≡ answer c.args.input.now = rw (c.unpatch-n.ensures.answer, c.unpatch-n.ensures.output) (left c.args.input.now (replicate 25094 0) (rw (length-replicate {A = ℕ} 25094 0) (omega arith))) in
    rw e at (same_by c.same-ok.result (take c.unpatch-n.result c.unpatch-n.new.out) _ c.same-ok.ensures.0 c.same-ok.ensures.1) in
    judged

-- src/record.rt:38:1
pub returns-else-not-ok : goal.returns-else-not-ok
returns-else-not-ok c =
    let judged : c.same-ok.result ≡ same (answer c.args.input.now) c.args.want.now = let e : take c.unpatch-n.result c.unpatch-n.new.out ≡ answer c.args.input.now = rw (c.unpatch-n.ensures.answer, c.unpatch-n.ensures.output) (left c.args.input.now (replicate 25094 0) (rw (length-replicate {A = ℕ} 25094 0) (omega arith))) in
    rw e at (same_by c.same-ok.result (take c.unpatch-n.result c.unpatch-n.new.out) _ c.same-ok.ensures.0 c.same-ok.ensures.1) in
    judged
