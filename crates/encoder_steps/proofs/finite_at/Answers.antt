-- `encoder_steps::finite_at` meets its contract. Assumes nothing.
use Rattle.encoder_steps.specs.inner.Step.{finite_at}
use Rattle.encoder_steps.proofs.finite_at.Goals as goal

pub returns : goal.returns
unfolding finite_at
returns c = cc (c.inside.ensures, c.finite.ensures, c.part.ensures)
