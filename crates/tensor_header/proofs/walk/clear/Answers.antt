-- `walk::clear` meets its contract. Assumes nothing.
use Rattle.std.proofs.Common.{sym, ◌∙◌, length}
use Rattle.buffers.proofs.Lists.{tab-one}
use Rattle.tensor_header.proofs.walk.clear.Goals as goal

pub returns : goal.returns
returns c = c.fill.ensures.after (λ y h. h) ∙ sym (tab-one (length c.args.places.now) 0)
