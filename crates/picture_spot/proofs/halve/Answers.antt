-- `picture_spot::halve` meets its contract. The invariant: from `low` and `high` on halving ends where it is to end. Assumes nothing.
use mathlib.Core.Path.{refl, sym, ◌∙◌}
use native.Mathlib.Omega.{arith}
use Rattle.picture_samples.specs.Samples.{entry}
use Rattle.picture_spot.specs.inner.Spot.{beyond, halved}
use Rattle.picture_spot.proofs.Halving.{turn_low, turn-high, ended}
use Rattle.picture_spot.proofs.halve.Goals as goal

pub loop-low-init : goal.loop-low-init
unfolding halved
loop-low-init c = (omega arith, omega arith, refl)

pub is_beyond-requires : goal.is_beyond-requires
is_beyond-requires c =
    let u = c.value_of-2.ensures in
    let d = c.value_of.ensures in
    (c.requires, omega arith, rw (d, u))

pub loop-low-preserved-then-is_beyond : goal.loop-low-preserved-then-is_beyond
loop-low-preserved-then-is_beyond c =
    (omega arith, omega arith, sym (turn_low (beyond (entry c.args.t.now) c.args.c c.args.v) c.loop-low.low c.loop-low.high (omega arith) (omega arith) (sym c.is_beyond.ensures ∙ c.if-is_beyond.true)) ∙ c.loop-low.invariant.2)

pub loop-low-preserved : goal.loop-low-preserved
loop-low-preserved c =
    (omega arith, omega arith, sym (turn-high (beyond (entry c.args.t.now) c.args.c c.args.v) c.loop-low.low c.loop-low.high (omega arith) (omega arith) (sym c.is_beyond.ensures ∙ c.if-is_beyond.false)) ∙ c.loop-low.invariant.2)

pub returns : goal.returns
returns c =
    sym (ended (beyond (entry c.args.t.now) c.args.c c.args.v) 255 c.loop-low.low c.loop-low.high (omega arith)) ∙ c.loop-low.invariant.2
