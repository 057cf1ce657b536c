-- `straight::scaled` meets its contract. Assumes nothing.
use mathlib.Core.Path.{◌≡◌}
use Prim.Native.Nat.{◌-◌, ◌≤◌}
use lib.ListN.{length, get_or}
use lib.Ieee.{nan, binary64, mul}
use Rattle.buffers.specs.Rows.{tab}
use Rattle.buffers.specs.Region.{put}
use Rattle.number_exp_tanh.specs.Exp.{two_to}
use Rattle.number_exp_lanes.proofs.straight.scaled.Given as goal

abbrev pub invariant-loop-l : goal.invariant-loop-l
invariant-loop-l l = (l.l ≤ 16) × (length l.v ≡ 16) × (l.v ≡ put l.initial.v 0 (tab l.l (λ i. mul binary64 (get_or l.p i nan) (two_to (get_or l.k i nan)))))
