-- `encoder_linear::linear::linear_no_bias_forward` meets its contract. Assumes nothing.
use mathlib.Core.Path.{sym, ◌∙◌}
use Rattle.encoder_linear.proofs.Rooms.{linear-says}
use Rattle.encoder_linear.proofs.linear.linear_no_bias_forward.Goals as goal

pub linear_rows-requires : goal.linear_rows-requires
linear_rows-requires c = linear-says (sym c.linear_fits.ensures ∙ c.if-linear_fits.true)

pub returns-then-linear_fits : goal.returns-then-linear_fits
returns-then-linear_fits c = rw (← c.linear_fits.ensures, c.if-linear_fits.true) c.linear_rows.ensures

pub returns-else-linear_fits : goal.returns-else-linear_fits
returns-else-linear_fits c = rw (← c.linear_fits.ensures, c.if-linear_fits.false)
