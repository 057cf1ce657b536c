-- `record::asked` meets its contract. Assumes nothing.
use mathlib.Core.Path.{sym}
use lib.Seq.{length-take-le}
use Rattle.weights_replay.proofs.Records.{judged}
use Rattle.weights_replay.proofs.record.asked.Goals as goal

pub slice_bounds-weights-end-2 : goal.slice_bounds-weights-end-2
slice_bounds-weights-end-2 c = sym (length-take-le _ _ (rw c.requires.1 c.lent-n.ensures.1))

pub returns : goal.returns
returns c =
    judged c.weights-found.result c.requires.0 c.lent-n.ensures.0 c.settings.ensures c.weights-found.ensures c.hash_words-cells.ensures c.said_agrees.ensures
