-- `buffers::part` meets its contract. Assumes nothing.
use mathlib.Core.Path.{sym, ◌∙◌}
use Prim.Native.Nat.{◌-◌}
use native.Mathlib.Nat.{add-sub_cancel_left, le_refl}
use lib.ListN.{length}
use Rattle.buffers.proofs.Regions.{region-past, region-rest}
use Rattle.buffers.proofs.part.Goals as goal

pub returns-then-s-a : goal.returns-then-s-a
returns-then-s-a c =
    sym (region-past c.args.s.now c.args.a c.args.n c.if-s-a.true)

pub returns-then-s-a-2 : goal.returns-then-s-a-2
returns-then-s-a-2 c =
    region-rest c.args.s.now c.args.a (length c.args.s.now - c.args.a) (le_refl _) ∙ sym (region-rest c.args.s.now c.args.a c.args.n c.if-s-a-2.true)

pub returns : goal.returns
returns c =
    rw (add-sub_cancel_left c.args.a c.args.n)
