-- `run::make` meets its contract: the answer's number and sizes, and the hash of what the call left. Assumes nothing.
use Rattle.tiles_replay.specs.Run.{made_left, made_of}
use Rattle.tiles_replay.proofs.run.make.Goals as goal

pub returns : goal.returns
unfolding made_left made_of
returns c = record {
  answer = rw (c.hash_floats.ensures, c.preprocess_tile-found.ensures.output, c.preprocess_tile-found.ensures.answer) at c.tell.ensures;
  output = c.preprocess_tile-found.ensures.output;
}
