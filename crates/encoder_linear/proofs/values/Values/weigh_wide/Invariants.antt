-- `encoder_linear::values::Values::weigh_wide` meets its contract: sixteen sums more, read past those before them. Assumes nothing.
use Prim.Native.Nat.{◌*◌}
use mathlib.Core.Path.{◌≡◌}
use Rattle.buffers.specs.Region.{region, put}
use Rattle.encoder_linear.specs.Linear.{weighed_row}
use lib.ListN.{length}
use Rattle.encoder_linear.proofs.values.Values.weigh_wide.Given as goal

abbrev pub invariant-loop-k : goal.invariant-loop-k
invariant-loop-k l = (length l.s ≡ length l.initial.s) × (l.s ≡ put l.initial.s l.out (weighed_row l.self.t l.self.dim (l.k * 16) l.self.o (region l.initial.s l.row l.self.t) (region l.initial.s l.self.v (l.self.t * l.self.dim))))
