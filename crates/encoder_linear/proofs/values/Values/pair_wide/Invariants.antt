-- `encoder_linear::values::Values::pair_wide` meets its contract: more sums of each row, read past those before them. Assumes nothing.
use Prim.Native.Nat.{◌-◌, ◌≤◌}
use mathlib.Core.Path.{◌≡◌}
use lib.ListN.{length}
use Rattle.encoder_linear.specs.inner.Weighed.{weighed_pair}
use Rattle.encoder_linear.proofs.values.Values.pair_wide.Given as goal

abbrev pub invariant-loop-d : goal.invariant-loop-d
invariant-loop-d l = (l.d ≤ l.self.hd) × (length l.s ≡ length l.initial.s) × (l.s ≡ weighed_pair l.initial.s l.a l.b l.self.v l.x l.y l.self.t l.self.dim l.d l.self.o)

abbrev pub decreases-loop-d : goal.decreases-loop-d
decreases-loop-d l = l.self.hd - l.d
