-- `encoder_elements::silus::gate_rest` meets its contract. Assumes nothing.
use borrow.Author.Rules.{rules}
use lib.Ieee.{binary32, mul}
use Rattle.encoder_elements.specs.Element.{silu_of, gated}
use Rattle.encoder_elements.proofs.silus.gate_rest.Goals as goal

pub returns : goal.returns
unfolding gated
returns c = c.map_pairs.ensures (λ a b. mul binary32 (silu_of a) b) (λ x y r p. search rules)
