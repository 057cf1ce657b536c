-- `encoder_linear::values::Values::pair_all` meets its contract: the sums sixteen by sixteen, and the rest behind them. Assumes nothing.
use mathlib.Core.Path.{◌∙◌}
use Rattle.encoder_linear.proofs.Rooms.{rest-fits}
use Rattle.encoder_linear.proofs.Pairs.{pair-rest}
use Rattle.encoder_linear.proofs.values.Values.pair_all.Goals as goal

pub weigh_rest-requires : goal.weigh_rest-requires
weigh_rest-requires c = rw c.pair_wide-d.auto.s (rest-fits c.pair_wide-d.result c.requires.first c.pair_wide-d.ensures.0)

pub weigh_rest-requires-2 : goal.weigh_rest-requires-2
weigh_rest-requires-2 c = rw (c.weigh_rest.auto.s ∙ c.pair_wide-d.auto.s) (rest-fits c.pair_wide-d.result c.requires.second c.pair_wide-d.ensures.0)

pub shape_of-s : goal.shape_of-s
shape_of-s c = c.weigh_rest-2.auto.s ∙ c.weigh_rest.auto.s ∙ c.pair_wide-d.auto.s

pub returns : goal.returns
returns c =
    pair-rest c.args.s.now c.args.a c.args.b c.args.self.v c.args.x c.args.y c.args.self.t c.args.self.dim c.args.self.hd c.args.self.o c.requires c.pair_wide-d.result c.pair_wide-d.ensures.0 c.pair_wide-d.new.s c.weigh_rest.new.s c.weigh_rest-2.new.s c.pair_wide-d.ensures.1 c.weigh_rest.ensures c.weigh_rest-2.ensures
