-- `encoder_linear::pair::weigh_pair` meets its contract. Assumes nothing.
use mathlib.Core.Path.{sym, ◌∙◌}
use Rattle.encoder_linear.proofs.Rooms.{weigh-pair-says}
use Rattle.encoder_linear.proofs.pair.weigh_pair.Goals as goal

pub pair_all-requires : goal.pair_all-requires
pair_all-requires c = weigh-pair-says (sym c.weigh_pair_fits.ensures ∙ c.if-weigh_pair_fits.true)

pub returns-then-weigh_pair_fits : goal.returns-then-weigh_pair_fits
returns-then-weigh_pair_fits c = rw (← c.weigh_pair_fits.ensures, c.if-weigh_pair_fits.true) c.pair_all.ensures

pub returns-else-weigh_pair_fits : goal.returns-else-weigh_pair_fits
returns-else-weigh_pair_fits c = rw (← c.weigh_pair_fits.ensures, c.if-weigh_pair_fits.false)
