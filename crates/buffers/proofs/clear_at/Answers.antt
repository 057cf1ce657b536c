-- `buffers::clear_at` meets its contract. Assumes nothing.
use mathlib.Core.Path.{sym, ◌∙◌}
use Prim.Native.Nat.{◌+◌, ◌-◌}
use native.Mathlib.Nat.{add-sub_cancel_left}
use native.Mathlib.Omega.{arith}
use borrow.Author.Tests.{leb-true}
use lib.ListN.{length}
use Rattle.number_floats.specs.Constants.{zero32}
use Rattle.buffers.proofs.Steps.{blank_part}
use Rattle.buffers.proofs.clear_at.Goals as goal

pub overflow_add-e : goal.overflow_add-e
overflow_add-e c = omega (arith, leb-true (c.args.at + c.args.n) (length c.args.s.now) (sym c.inside.ensures ∙ c.if-inside.true))

pub offset_bounds-s-at : goal.offset_bounds-s-at
offset_bounds-s-at c = omega (arith, leb-true (c.args.at + c.args.n) (length c.args.s.now) (sym c.inside.ensures ∙ c.if-inside.true))

pub returns-then-inside : goal.returns-then-inside
returns-then-inside c =
    let t = sym c.inside.ensures ∙ c.if-inside.true in
    rw t (blank_part zero32 c.args.at c.args.n (c.args.at + c.args.n - c.args.at) c.args.s.now c.clear.new.s (add-sub_cancel_left c.args.at c.args.n) (leb-true (c.args.at + c.args.n) (length c.args.s.now) t) c.clear.ensures)

pub returns-else-inside : goal.returns-else-inside
returns-else-inside c = rw (← c.inside.ensures, c.if-inside.false)
