-- `record::field` meets its contract. Assumes nothing.
use Rattle.config_replay.proofs.record.field.Goals as goal

pub returns : goal.returns
returns c = (c.number_at.ensures.is, c.number_at.ensures.within)
