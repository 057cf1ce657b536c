-- `replay::replay` meets its contract: the counts so far and the records that are left give the tally of the whole. Assumes nothing.
use Prim.Native.Nat.{◌≤◌}
use native.Mathlib.Omega.{arith}
use mathlib.Core.Path.{◌≡◌, refl, sym, ◌∙◌}
use lib.ListN.{length, drop, drop_of_length-le}
use Rattle.unpatch_form.proofs.Fields.{rest}
use Rattle.unpatch_replay.specs.Record.{step_of}
use Rattle.unpatch_replay.proofs.Records.{turn, tally-end, counted-sum}
use Rattle.unpatch_replay.proofs.replay.replay.Goals as goal

-- src/replay.rt:36:5
pub loop-at-init : goal.loop-at-init
loop-at-init c = (omega arith, omega arith, (length c.args.text.now, omega arith, refl))

-- src/replay.rt:38:9
pub count-c-requires : goal.count-c-requires
count-c-requires c = omega (arith, c.loop-at.invariant.0, c.loop-at.invariant.1)

-- src/replay.rt:36:5
pub loop-at-preserved : goal.loop-at-preserved
loop-at-preserved c =
    let s = c.args.text.now in
    let r = c.first-s.result in
    let e : r ≡ step_of (drop c.loop-at.at s) = rw (rest s c.loop-at.at) at c.first-s.ensures.0 in
    let n = c.count-c.ensures in
    (omega (arith, c.first-s.ensures.2), rw n (omega (arith, counted-sum c.first-s.result.same c.loop-at.c, c.loop-at.invariant.1, c.first-s.ensures.1)), rw n (turn s c.loop-at.at c.loop-at.c _ r (omega arith) e c.first-s.ensures.1 c.loop-at.invariant.2))

-- src/replay.rt:28:1
pub returns : goal.returns
returns c =
    let s = c.args.text.now in
    let h : length s ≤ c.loop-at.at = omega arith in
    let e = c.loop-at.invariant.2.2 in
    sym (tally-end c.loop-at.invariant.2.0 c.loop-at.c) ∙ rw (drop_of_length-le s {i = c.loop-at.at} h) at e
