-- `encoder_linear::bias::add_rows` meets its contract. Assumes nothing.
use mathlib.Core.Path.{◌≡◌}
use Prim.Native.Nat.{◌+◌, ◌*◌, ◌≤◌}
use lib.ListN.{length}
use Rattle.buffers.specs.Region.{region, put}
use Rattle.buffers.specs.Each.{each_row}
use Rattle.encoder_linear.proofs.Biases.{plus}
use Rattle.encoder_linear.proofs.bias.add_rows.Given as goal

abbrev pub invariant-loop-r : goal.invariant-loop-r
invariant-loop-r l = (l.r ≤ l.n) × (l.at ≡ l.y + l.r * l.d) × (length l.s ≡ length l.initial.s) × (l.s ≡ put l.initial.s l.y (each_row l.r l.d (plus l.d l.b) (region l.initial.s l.y (l.n * l.d))))
