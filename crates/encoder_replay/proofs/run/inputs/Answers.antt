-- `run::inputs` meets its contract: the floats of the seed, then the damage. Assumes nothing.
use Rattle.encoder_replay.specs.Run.{inputs_from}
use Rattle.encoder_replay.proofs.run.inputs.Goals as goal

pub returns : goal.returns
unfolding inputs_from
returns c =
    rw c.fill_units.ensures at c.damage.ensures
