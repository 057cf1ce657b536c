-- `record::judge` meets its contract. Assumes nothing.
use mathlib.Core.Path.{◌∙◌}
use lib.ListN.{length-replicate}
use Rattle.weights_replay.proofs.record.judge.Goals as goal

pub asked-requires : goal.asked-requires
asked-requires c =
    (simp length-replicate at c.fill_words.ensures, c.fill_words.auto.to ∙ simp length-replicate)

pub returns : goal.returns
returns c = c.asked.ensures
