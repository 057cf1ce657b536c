-- `encoder_linear::values::Values::weigh_rest` meets its contract. Assumes nothing.
use mathlib.Core.Path.{◌≡◌}
use Prim.Native.Nat.{◌*◌, ◌≤◌}
use lib.ListN.{length}
use Rattle.buffers.specs.Region.{region, put}
use Rattle.encoder_linear.specs.Linear.{weighed_row}
use Rattle.encoder_linear.proofs.values.Values.weigh_rest.Given as goal

abbrev pub invariant-loop-d : goal.invariant-loop-d
invariant-loop-d l =
    (l.d ≤ l.self.hd) × (length l.s ≡ length l.initial.s)
    × (l.s ≡ put l.initial.s l.out (weighed_row l.self.t l.self.dim l.d l.self.o (region l.initial.s l.row l.self.t) (region l.initial.s l.self.v (l.self.t * l.self.dim))))
