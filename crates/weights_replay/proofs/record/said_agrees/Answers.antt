-- `record::said_agrees` meets its contract. Assumes nothing.
use mathlib.Core.Path.{refl}
use Rattle.weights_replay.specs.Record.{said_agrees}
use Rattle.weights_replay.proofs.record.said_agrees.Goals as goal

pub returns-in-Ok : goal.returns-in-Ok
unfolding said_agrees
returns-in-Ok c = rw c.in-Ok.is refl

pub returns-in-Err : goal.returns-in-Err
unfolding said_agrees
returns-in-Err c = rw (c.in-Err.is, ← c.from.ensures) refl
