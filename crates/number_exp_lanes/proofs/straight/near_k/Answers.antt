-- `straight::near_k` meets its contract. Assumes nothing.
use lib.Dec.{lit≤}
use lib.Ieee.{binary64, nan_bits, add, div}
use lib.Ieee.Fits.{div-fits}
use Rattle.number_floats.specs.Whole.{one_half}
use Rattle.number_exp_tanh.specs.Exp.{L}
use Rattle.number_exp_tanh.proofs.exp.Range.{sum-at-most, wider}
use Rattle.number_exp_lanes.proofs.straight.Halves.{no-minus-zero}
use Rattle.number_exp_lanes.proofs.straight.near_k.Goals as goal

pub float_from_bits-near_floor : goal.float_from_bits-near_floor
unfolding nan_bits
float_from_bits-near_floor c = tt

pub near_floor-requires : goal.near_floor-requires
near_floor-requires c =
    let x = c.args.x in
    (wider 152 200 (add binary64 (div binary64 x L) one_half) (lit≤ tt) (sum-at-most x c.requires), no-minus-zero (div binary64 x L) (div-fits binary64 x L))

pub returns : goal.returns
returns c = c.near_floor.ensures
