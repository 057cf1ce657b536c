-- `encoder_linear::lanes::lanes` meets its contract. Assumes nothing.
use mathlib.Core.Path.{◌≡◌}
use Prim.Native.Nat.{◌≤◌}
use lib.ListN.{length}
use Rattle.buffers.specs.Rows.{tab}
use Rattle.encoder_linear.specs.inner.Lanes.{lane_of}
use Rattle.encoder_linear.proofs.lanes.lanes.Given as goal

abbrev pub invariant-loop-k : goal.invariant-loop-k
invariant-loop-k l =
    (l.k ≤ length l.w) × (l.b ≡ tab 16 (lane_of l.k l.initial.b l.xt l.w))
