-- `encoder_linear::linear::linear_from` meets its contract. Assumes nothing.
use mathlib.Core.Path.{sym, ◌∙◌}
use Rattle.encoder_linear.proofs.Rooms.{from-says}
use Rattle.encoder_linear.proofs.linear.linear_from.Goals as goal

pub from_rows-requires : goal.from_rows-requires
from_rows-requires c = from-says (sym c.from_fits.ensures ∙ c.if-from_fits.true)

pub returns-then-from_fits : goal.returns-then-from_fits
returns-then-from_fits c = rw (← c.from_fits.ensures, c.if-from_fits.true) c.from_rows.ensures

pub returns-else-from_fits : goal.returns-else-from_fits
returns-else-from_fits c = rw (← c.from_fits.ensures, c.if-from_fits.false)
