-- `encoder_softmax::softmax::scale_row` meets its contract. Assumes nothing.
use mathlib.Core.Path.{sym, ◌∙◌}
use Prim.Native.Nat.{◌+◌}
use borrow.Author.Tests.{leb-true}
use lib.ListN.{length}
use Rattle.encoder_softmax.proofs.softmax.scale_row.Goals as goal

pub scale_floats-requires : goal.scale_floats-requires
scale_floats-requires c =
    leb-true (c.args.y + c.args.n) (length c.args.s.now) (sym c.inside.ensures ∙ c.if-inside.true)

pub returns-then-inside : goal.returns-then-inside
returns-then-inside c = rw (← c.inside.ensures, c.if-inside.true) c.scale_floats.ensures

pub returns-else-inside : goal.returns-else-inside
returns-else-inside c = rw (← c.inside.ensures, c.if-inside.false)
