-- `encoder_linear::bias::add_row` meets its contract. Assumes nothing.
use mathlib.Core.Path.{◌≡◌}
use Prim.Native.Nat.{◌≤◌}
use lib.ListN.{length}
use lib.Ieee.{nan, binary32, add}
use Rattle.buffers.specs.Region.{region, put}
use Rattle.buffers.specs.Each.{both}
use Rattle.encoder_linear.proofs.bias.add_row.Given as goal

abbrev pub invariant-loop-i : goal.invariant-loop-i
invariant-loop-i l = (l.i ≤ length l.b) × (length l.s ≡ length l.initial.s) × (l.s ≡ put l.initial.s l.y (both nan l.i (λ u v. add binary32 u v) (region l.initial.s l.y (length l.b)) l.b))
