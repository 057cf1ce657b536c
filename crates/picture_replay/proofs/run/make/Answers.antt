-- `run::make` meets its contract: the answer's number and sizes, and the hash of what the call left. Assumes nothing.
use Rattle.picture_replay.specs.Run.{left, made_of}
use Rattle.picture_replay.proofs.run.make.Goals as goal

pub returns : goal.returns
unfolding left made_of
returns c = record {
  answer = rw (c.hash_floats.ensures, c.pixtral_preprocess-found.ensures.output, c.pixtral_preprocess-found.ensures.answer) at c.tell_made.ensures;
  output = c.pixtral_preprocess-found.ensures.output;
}
