-- `encoder_elements::element::truncate_to_bf16_inplace` meets its contract. Assumes nothing.
use borrow.Author.Rules.{rules}
use Rattle.number_bf16_half_root.specs.Bf16.{bf16_of}
use Rattle.encoder_elements.specs.Element.{rounded}
use Rattle.encoder_elements.proofs.element.truncate_to_bf16_inplace.Goals as goal

pub returns-then-inside : goal.returns-then-inside
unfolding rounded
returns-then-inside c = rw (← c.inside.ensures, c.if-inside.true) (c.map_values.ensures bf16_of (λ x r p. search rules))
