-- `encoder_elements::element::add_into` meets its contract. Assumes nothing.
use mathlib.Core.Path.{sym, ◌∙◌}
use borrow.Author.Rules.{rules}
use lib.Ieee.{binary32, add}
use Rattle.encoder_elements.specs.Element.{added}
use Rattle.encoder_elements.proofs.Rooms.{pair-says}
use Rattle.encoder_elements.proofs.element.add_into.Goals as goal

pub map_pairs-requires-clause-fits : goal.map_pairs-requires-clause-fits
map_pairs-requires-clause-fits c = pair-says (sym c.pair_fits.ensures ∙ c.if-pair_fits.true)

pub returns-then-pair_fits : goal.returns-then-pair_fits
unfolding added
returns-then-pair_fits c = rw (← c.pair_fits.ensures, c.if-pair_fits.true) (c.map_pairs.ensures (λ a b. add binary32 a b) (λ x y r p. search rules))
