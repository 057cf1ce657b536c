-- `buffers::clear` meets its contract. Assumes nothing.
use mathlib.Core.Path.{sym, ◌∙◌}
use lib.ListN.{length}
use Rattle.number_floats.specs.Constants.{zero32}
use Rattle.buffers.proofs.Lists.{tab-one}
use Rattle.buffers.proofs.clear.Goals as goal

pub returns : goal.returns
returns c = c.fill.ensures.after (λ y h. h) ∙ sym (tab-one (length c.args.s.now) zero32)
