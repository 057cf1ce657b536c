-- `number_exp_tanh::tanh::tanh` meets its contract. Assumes nothing.
use Rattle.std.proofs.Common.{ap, ◌∙◌}
use lib.Ieee.{binary32, to_bits}
use Rattle.number_exp_tanh.specs.Tanh as S
use Rattle.number_exp_tanh.proofs.tanh.tanh.Goals as goal

pub returns : goal.returns
unfolding S.tanh_bits
returns c = c.bits_of_f32.ensures ∙ ap (to_bits binary32) (c.tanh_f32.ensures ∙ ap S.T c.f32_of_bits.ensures)
