-- `encoder_linear::lanes::four_lanes` meets its contract. Assumes nothing.
use mathlib.Core.Path.{◌≡◌}
use Prim.Native.Nat.{◌≤◌}
use lib.ListN.{length}
use Rattle.buffers.specs.Rows.{tab}
use Rattle.encoder_linear.specs.inner.Lanes.{lane_of}
use Rattle.encoder_linear.proofs.lanes.four_lanes.Given as goal

abbrev pub invariant-loop-k : goal.invariant-loop-k
invariant-loop-k l =
    (l.k ≤ length l.w) × (l.e ≡ tab 16 (lane_of l.k l.initial.e l.xt l.w)) × (l.f ≡ tab 16 (lane_of l.k l.initial.f l.xt l.v)) × (l.g ≡ tab 16 (lane_of l.k l.initial.g l.xt l.u)) × (l.h ≡ tab 16 (lane_of l.k l.initial.h l.xt l.p))
