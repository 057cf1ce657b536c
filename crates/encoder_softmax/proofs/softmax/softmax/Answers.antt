-- `encoder_softmax::softmax::softmax` meets its contract. Assumes nothing.
use mathlib.Core.Path.{sym, ◌∙◌}
use Prim.Native.Nat.{◌+◌}
use borrow.Author.Tests.{leb-true}
use lib.ListN.{length}
use Rattle.encoder_softmax.proofs.softmax.softmax.Goals as goal

pub soften_row-requires : goal.soften_row-requires
soften_row-requires c =
    leb-true (c.args.row + c.args.t) (length c.args.s.now) (sym c.inside.ensures ∙ c.if-inside.true)

pub returns-then-inside : goal.returns-then-inside
returns-then-inside c = rw (← c.inside.ensures, c.if-inside.true) c.soften_row.ensures

pub returns-else-inside : goal.returns-else-inside
returns-else-inside c = rw (← c.inside.ensures, c.if-inside.false)
