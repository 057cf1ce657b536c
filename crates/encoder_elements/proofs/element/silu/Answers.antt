-- `encoder_elements::element::silu` meets its contract. Assumes nothing.
use Rattle.encoder_elements.specs.Element.{silu_of}
use Rattle.encoder_elements.proofs.element.silu.Goals as goal

pub returns : goal.returns
unfolding silu_of
returns c = rw c.exp_f32.ensures
