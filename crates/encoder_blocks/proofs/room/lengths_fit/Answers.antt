-- `encoder_blocks::room::lengths_fit` meets its contract. Assumes nothing.
use Rattle.encoder_blocks.specs.inner.Room.{lengths_fit}
use Rattle.encoder_blocks.proofs.room.lengths_fit.Goals as goal

pub returns : goal.returns
unfolding lengths_fit
returns c = rw (c.tables_fit-fit.ensures, c.inside.ensures, c.score_floats.ensures, c.rows_inside.ensures, c.layer_floats-size.ensures)
