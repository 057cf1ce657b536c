-- `run::bring` meets its contract: the answer's number and sizes, and the hash of what the call left. Assumes nothing.
use Rattle.picture_replay.specs.Run.{back_of}
use Rattle.picture_replay.proofs.run.bring.Goals as goal

pub returns : goal.returns
unfolding back_of
returns c =
    rw (c.hash_bytes.ensures, c.restore-found.ensures.output, c.restore-found.ensures.answer) at c.tell_back.ensures
