-- `encoder_linear::lanes::two_lanes` meets its contract. Assumes nothing.
use mathlib.Core.Path.{◌≡◌}
use Prim.Native.Nat.{◌≤◌}
use lib.ListN.{length}
use Rattle.buffers.specs.Rows.{tab}
use Rattle.encoder_linear.specs.inner.Lanes.{lane_of}
use Rattle.encoder_linear.proofs.lanes.two_lanes.Given as goal

abbrev pub invariant-loop-k : goal.invariant-loop-k
invariant-loop-k l = (l.k ≤ length l.w) × (l.c ≡ tab 16 (lane_of l.k l.initial.c l.xt l.w)) × (l.d ≡ tab 16 (lane_of l.k l.initial.d l.xt l.v))
