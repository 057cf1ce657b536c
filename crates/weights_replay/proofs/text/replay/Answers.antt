-- `text::replay` meets its contract. Assumes nothing.
use native.Mathlib.Omega.{arith}
use lib.ListN.{drop}
use Rattle.weights_replay.specs.Record.{none, Steps}
use Rattle.weights_replay.proofs.Records.{rest, turn, ends, counted-sum}
use Rattle.weights_replay.proofs.text.replay.Goals as goal

pub loop-at-init : goal.loop-at-init
loop-at-init c = (omega arith, omega arith, λ r x. x)

pub count-c-requires : goal.count-c-requires
count-c-requires c = omega (arith, c.loop-at.invariant.0, c.loop-at.invariant.1)

pub loop-at-preserved : goal.loop-at-preserved
loop-at-preserved c = let s = c.args.text.now in
    let r = c.first-s.result in
    let e : Steps (drop c.loop-at.at s) r = rw (rest s c.loop-at.at) at c.first-s.ensures.0 in
    let n = c.count-c.ensures in
    (omega (arith, c.first-s.ensures.2), rw n (omega (arith, counted-sum c.first-s.result.same c.loop-at.c, c.loop-at.invariant.1, c.first-s.ensures.1)), rw n (turn none s c.loop-at.at c.loop-at.c r (omega arith) e c.loop-at.invariant.2))

pub returns : goal.returns
returns c = ends none _ c.loop-at.at c.loop-at.c (omega arith) c.loop-at.invariant.2
