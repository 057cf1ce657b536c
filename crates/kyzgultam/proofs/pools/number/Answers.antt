-- `kyzgultam::pools::number` meets its contract. Assumes nothing.
use mathlib.Core.Path.{sym, ap, ◌∙◌}
use Rattle.pool.specs.Pool as Pl
use Rattle.kyzgultam.proofs.pools.number.Goals as goal

pub returns-in-Err : goal.returns-in-Err
returns-in-Err c = c.from.ensures ∙ sym (ap Pl.number c.in-Err.is)
