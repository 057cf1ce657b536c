-- `fill::put_values` meets its contract. Assumes nothing.
use mathlib.Core.Path.{sym, ◌∙◌}
use Prim.Native.Nat.{◌+◌, ◌-◌}
use mathlib.Core.Bool.{false≢true}
use native.Mathlib.Omega.{arith}
use native.Mathlib.Nat.{add-sub_cancel_left}
use lib.ListN.{length}
use borrow.Author.Tests.{leb-true, le-leb}
use Rattle.tensor_values.specs.Values.{values_of}
use Rattle.weights.proofs.Filling.{put-part}
use Rattle.weights.proofs.fill.put_values.Goals as goal

pub overflow_add-e : goal.overflow_add-e
overflow_add-e c = omega (arith, (leb-true (c.args.at + c.args.count) (length c.args.out.now) (sym c.inside.ensures ∙ c.if-inside.true)))

pub offset_bounds-out-at : goal.offset_bounds-out-at
offset_bounds-out-at c = omega (arith, (leb-true (c.args.at + c.args.count) (length c.args.out.now) (sym c.inside.ensures ∙ c.if-inside.true)))

pub returns-then-inside : goal.returns-then-inside
returns-then-inside c = record { is = λ l h. put-part c.args.at c.args.count (c.args.at + c.args.count - c.args.at) c.args.out.now c.widen.new.out (values_of c.args.kind c.args.bytes.now) (add-sub_cancel_left c.args.at c.args.count) h l c.widen.ensures }

pub returns-else-inside : goal.returns-else-inside
returns-else-inside c = record { is = λ l h. absurd (false≢true (sym c.if-inside.false ∙ c.inside.ensures ∙ le-leb (c.args.at + c.args.count) (length c.args.out.now) h)) }
