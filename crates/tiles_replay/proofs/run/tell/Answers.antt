-- `run::tell` meets its contract: a tile's sizes, or a refusal's number. Assumes nothing.
use Rattle.tiles_replay.proofs.run.tell.Goals as goal

pub returns-in-Ok : goal.returns-in-Ok
returns-in-Ok c = rw c.in-Ok.is

pub returns-in-Err : goal.returns-in-Err
returns-in-Err c = rw (c.in-Err.is, c.from.ensures)
