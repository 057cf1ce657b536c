-- `record::said_agrees` meets its contract. Assumes nothing.
use mathlib.Core.Path.{refl}
use Rattle.config_replay.specs.Record.{said_agrees}
use Rattle.config_replay.proofs.record.said_agrees.Goals as goal

pub returns-in-Ok : goal.returns-in-Ok
unfolding said_agrees
returns-in-Ok c = rw (c.in-Ok.is, ← c.field-p.ensures.0, ← c.field-n.ensures.0) refl

pub returns-in-Err : goal.returns-in-Err
unfolding said_agrees
returns-in-Err c = rw (c.in-Err.is, ← c.field-p.ensures.0, ← c.field-n.ensures.0, ← c.from.ensures) refl
