-- `number_exp_tanh::exp::k_of` meets its contract. Assumes nothing.
use lib.Ieee.{nan_bits}
use Rattle.number_exp_tanh.proofs.exp.k_of.Goals as goal

pub float_from_bits-l : goal.float_from_bits-l
unfolding nan_bits
float_from_bits-l c = tt

pub returns : goal.returns
returns c = c.floor_f64.ensures
