-- `encoder_elements::element::gelu_quick` meets its contract. Assumes nothing.
use Rattle.encoder_elements.specs.Element.{gelu_of}
use Rattle.encoder_elements.proofs.element.gelu_quick.Goals as goal

pub returns : goal.returns
unfolding gelu_of
returns c = rw c.tanh_f32.ensures
