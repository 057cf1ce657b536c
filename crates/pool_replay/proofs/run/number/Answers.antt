-- `run::number` meets its contract. Assumes nothing.
use mathlib.Core.Path.{sym, ap, ◌∙◌}
use Rattle.pool.specs.Pool as P
use Rattle.pool_replay.proofs.run.number.Goals as goal

pub returns-in-Err : goal.returns-in-Err
returns-in-Err c = c.from.ensures ∙ sym (ap P.number c.in-Err.is)
