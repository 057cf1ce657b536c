-- `encoder_elements::element::gelu_inplace` meets its contract. Assumes nothing.
use borrow.Author.Rules.{rules}
use Rattle.encoder_elements.specs.Element.{gelu_of}
use Rattle.encoder_elements.specs.Element.{gelued}
use Rattle.encoder_elements.proofs.element.gelu_inplace.Goals as goal

pub returns-then-inside : goal.returns-then-inside
unfolding gelued
returns-then-inside c = rw (← c.inside.ensures, c.if-inside.true) (c.map_values.ensures gelu_of (λ x r p. search rules))
