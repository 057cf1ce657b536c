-- `encoder_linear::few::cells` meets its contract. Assumes nothing.
use mathlib.Core.Path.{◌≡◌}
use Prim.Native.Nat.{◌≤◌}
use Rattle.buffers.specs.Rows.{tab}
use Rattle.encoder_linear.specs.inner.Lanes.{cell_of}
use Rattle.encoder_linear.proofs.few.cells.Given as goal

abbrev pub invariant-loop-k : goal.invariant-loop-k
invariant-loop-k l = (l.k ≤ l.n) × (l.b ≡ tab 16 (cell_of l.k l.initial.b l.xt l.w l.at l.nin))
