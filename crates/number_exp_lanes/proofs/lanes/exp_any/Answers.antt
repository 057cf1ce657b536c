-- `number_exp_lanes::lanes::exp_any` meets its contract. Assumes nothing.
use Rattle.number_exp_lanes.proofs.lanes.Series.{lanes}
use Rattle.number_exp_lanes.proofs.lanes.exp_any.Goals as goal

pub end_lanes-requires : goal.end_lanes-requires
end_lanes-requires c =
    (c.k_lanes-k.ensures, lanes c.args.x c.k_lanes-k.result c.r_lanes.result _ c.k_lanes-k.ensures c.r_lanes.ensures c.series_lanes-p.ensures)

pub returns : goal.returns
returns c = c.end_lanes.ensures
