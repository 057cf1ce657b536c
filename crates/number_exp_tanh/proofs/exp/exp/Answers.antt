-- `number_exp_tanh::exp::exp` meets its contract. Assumes nothing.
use Rattle.std.proofs.Common.{ap, ◌∙◌}
use lib.Ieee.{binary32, to_bits}
use Rattle.number_exp_tanh.specs.Exp.{E, exp_bits}
use Rattle.number_exp_tanh.proofs.exp.exp.Goals as goal

pub returns : goal.returns
unfolding exp_bits
returns c = c.bits_of_f32.ensures ∙ ap (to_bits binary32) (c.exp_f32.ensures ∙ ap E c.f32_of_bits.ensures)
