-- `walk::find` meets its contract. Assumes nothing.
use mathlib.Core.Path.{sym, ◌∙◌}
use native.Mathlib.Omega.{arith}
use Rattle.tensor_header.proofs.Told.{no-object, an-object}
use Rattle.tensor_header.proofs.walk.find.Goals as goal

pub overflow_add-at : goal.overflow_add-at
overflow_add-at c = omega (arith, c.blank-at.ensures.high)

pub returns-then-opens : goal.returns-then-opens
returns-then-opens c = an-object c.blank-at.ensures c.args.s c.args.places.now _ c.walk.auto.places (sym c.opens.ensures ∙ c.if-opens.true) c.walk.ensures

pub damaged-requires : goal.damaged-requires
damaged-requires c = omega (arith, c.blank-at.ensures.high)

pub returns : goal.returns
returns c = rw c.damaged.ensures (no-object c.blank-at.ensures c.args.s c.args.places.now (sym c.opens.ensures ∙ c.if-opens.false))
