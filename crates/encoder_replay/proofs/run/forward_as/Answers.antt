-- `run::forward_as` meets its contract: each way is its own call. Assumes nothing.
use Rattle.encoder_replay.specs.Run.{encoded_as, out_as, scratch_as}
use Rattle.encoder_replay.proofs.run.forward_as.Goals as goal

pub returns-in-RowWise : goal.returns-in-RowWise
unfolding encoded_as out_as scratch_as
returns-in-RowWise c = record {
  value = rw c.in-RowWise.is c.forward.ensures.answer;
  out_after = rw c.in-RowWise.is c.forward.ensures.output;
  scratch_after = rw c.in-RowWise.is c.forward.ensures.work;
}

pub returns-in-Plain : goal.returns-in-Plain
unfolding encoded_as out_as scratch_as
returns-in-Plain c = record {
  value = rw c.in-Plain.is c.forward_plain.ensures.answer;
  out_after = rw c.in-Plain.is c.forward_plain.ensures.output;
  scratch_after = rw c.in-Plain.is c.forward_plain.ensures.work;
}
