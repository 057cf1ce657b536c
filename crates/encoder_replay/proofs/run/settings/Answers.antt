-- `run::settings` meets its contract. Assumes nothing.
use Rattle.encoder_replay.proofs.run.settings.Goals as goal

pub returns : goal.returns
returns c = rw c.f32_of_bits.ensures
