-- `number_bf16_half_root::root::root_f32` meets its contract. Assumes nothing.
use Rattle.std.proofs.Common.{ap, ◌∙◌}
use lib.Ieee.{binary32, of_bits}
use Rattle.number_bf16_half_root.specs.Root as S
use Rattle.number_bf16_half_root.proofs.root.root_f32.Goals as goal

pub returns : goal.returns
unfolding S.root_of
returns c = c.f32_of_bits.ensures ∙ ap (of_bits binary32) (c.root.ensures ∙ ap S.root c.bits_of_f32.ensures)
