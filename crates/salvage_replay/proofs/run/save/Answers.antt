-- `run::save` meets its contract: the answer's number and sizes, and the hashes of what the call read and left. Assumes nothing.
use Rattle.salvage_replay.specs.Run.{saved_of}
use Rattle.salvage_replay.proofs.run.save.Goals as goal

pub returns : goal.returns
unfolding saved_of
returns c =
    rw (c.hash_words-2.ensures, c.hash_bytes.ensures, c.hash_words.ensures, c.salvage-found.ensures.entries, c.salvage-found.ensures.output, c.salvage-found.ensures.answer) at c.tell.ensures
