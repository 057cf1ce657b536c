-- `encoder_linear::weigh::weigh` meets its contract. Assumes nothing.
use mathlib.Core.Path.{sym, ◌∙◌}
use Rattle.encoder_linear.proofs.Rooms.{weigh-says}
use Rattle.encoder_linear.proofs.weigh.weigh.Goals as goal

pub weigh_all-requires : goal.weigh_all-requires
weigh_all-requires c = weigh-says (sym c.weigh_fits.ensures ∙ c.if-weigh_fits.true)

pub returns-then-weigh_fits : goal.returns-then-weigh_fits
returns-then-weigh_fits c = rw (← c.weigh_fits.ensures, c.if-weigh_fits.true) c.weigh_all.ensures

pub returns-else-weigh_fits : goal.returns-else-weigh_fits
returns-else-weigh_fits c = rw (← c.weigh_fits.ensures, c.if-weigh_fits.false)
