-- `record::settings_agree` meets its contract. Assumes nothing.
use native.Mathlib.Omega.{arith}
use mathlib.Core.Path.{refl}
use Rattle.config_replay.specs.Record.{settings_agree}
use Rattle.config_replay.proofs.record.settings_agree.Goals as goal

pub field-requires-7 : goal.field-requires-7
field-requires-7 c = (c.requires, omega arith)

pub field-requires-8 : goal.field-requires-8
field-requires-8 c = (c.requires, omega arith)

pub returns : goal.returns
unfolding settings_agree
returns c = rw (← c.field-8.ensures.0, ← c.field-7.ensures.0, ← c.field-6.ensures.0, ← c.field-5.ensures.0, ← c.field-4.ensures.0, ← c.field-3.ensures.0, ← c.field-2.ensures.0, ← c.field.ensures.0) refl
