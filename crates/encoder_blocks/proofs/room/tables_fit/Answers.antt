-- `encoder_blocks::room::tables_fit` meets its contract. Assumes nothing.
use Rattle.encoder_blocks.proofs.room.tables_fit.Goals as goal

pub returns-in-Full : goal.returns-in-Full
returns-in-Full c = rw c.in-Full.is

pub returns-in-Axes : goal.returns-in-Axes
returns-in-Axes c = rw c.in-Axes.is
