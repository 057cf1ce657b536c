-- `number_exp_tanh::exp::r_of` meets its contract. Assumes nothing.
use lib.Ieee.{nan_bits}
use Rattle.number_exp_tanh.proofs.exp.r_of.Goals as goal

pub float_from_bits-result : goal.float_from_bits-result
unfolding nan_bits
float_from_bits-result c = tt
