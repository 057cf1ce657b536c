-- `number_bf16_half_root::bf16::bf16_f32` meets its contract. Assumes nothing.
use Rattle.std.proofs.Common.{ap, ◌∙◌}
use lib.Ieee.{binary32, of_bits}
use Rattle.number_bf16_half_root.specs.Bf16 as S
use Rattle.number_bf16_half_root.proofs.bf16.bf16_f32.Goals as goal

pub returns : goal.returns
unfolding S.bf16_of
returns c = c.f32_of_bits.ensures ∙ ap (of_bits binary32) (c.bf16.ensures ∙ ap S.bf16 c.bits_of_f32.ensures)
