-- `run::settings` meets its contract. Assumes nothing.
use Rattle.picture_replay.proofs.run.settings.Goals as goal

pub returns : goal.returns
returns c =
    rw (c.float.ensures, c.float-2.ensures, c.float-3.ensures, c.float-4.ensures, c.float-5.ensures, c.float-6.ensures)
