-- `number_exp_tanh::tanh::near_zero` meets its contract: its operations are the definition's. Assumes nothing.
use Rattle.std.proofs.Common.{refl}
use Rattle.number_exp_tanh.specs.Tanh.{near_zero}
use Rattle.number_exp_tanh.proofs.tanh.near_zero.Goals as goal

pub returns : goal.returns
unfolding near_zero
returns c = refl
