-- `names::behind_number` meets its contract. Assumes nothing.
use mathlib.Core.Path.{◌∙◌, sym, ap}
use Rattle.json_members.specs.inner.Bytes.{behind_at}
use Rattle.tensor_header.proofs.Listed.{one-digit, two_digits}
use Rattle.tensor_header.proofs.names.behind_number.Goals as goal

pub returns-then-l-lt10 : goal.returns-then-l-lt10
returns-then-l-lt10 c = c.behind.ensures ∙ ap (behind_at c.args.h.now c.args.at) (sym (one-digit c.args.l c.if-l-lt10.true))

pub returns : goal.returns
returns c = c.behind-2.ensures ∙ ap (behind_at c.args.h.now c.args.at) (sym (two_digits c.args.l c.if-l-lt10.false c.requires))
