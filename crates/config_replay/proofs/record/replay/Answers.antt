-- `record::replay` meets its contract: what the judge says of a text is what `first` does. Assumes nothing.
use Rattle.std.proofs.Common.{rules}
use Rattle.tally.proofs.Tallies.{says}
use Rattle.config_replay.proofs.record.replay.Goals as goal

pub returns : goal.returns
returns c = says (λ t s f. search rules) c.tally.ensures
