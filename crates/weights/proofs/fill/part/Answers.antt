-- `fill::part` meets its contract. Assumes nothing.
use mathlib.Core.Path.{sym, ◌∙◌}
use Prim.Native.Nat.{◌-◌}
use native.Mathlib.Nat.{add-sub_cancel_left, le_refl}
use lib.ListN.{length}
use Rattle.buffers.proofs.Regions.{region-past, region-rest}
use Rattle.weights.proofs.fill.part.Goals as goal

pub returns-then-b-a : goal.returns-then-b-a
returns-then-b-a c =
    sym (region-past c.args.b.now c.args.a c.args.n c.if-b-a.true)

pub returns-then-b-a-2 : goal.returns-then-b-a-2
returns-then-b-a-2 c =
    region-rest c.args.b.now c.args.a (length c.args.b.now - c.args.a) (le_refl _) ∙ sym (region-rest c.args.b.now c.args.a c.args.n c.if-b-a-2.true)

pub returns : goal.returns
returns c =
    rw (add-sub_cancel_left c.args.a c.args.n)
