-- `straight::k_inside` meets its contract. Assumes nothing.
use mathlib.Core.Path.{◌≡◌}
use Prim.Native.Nat.{◌-◌, ◌≤◌}
use lib.ListN.{length, get_or}
use lib.Ieee.{nan}
use Rattle.buffers.specs.Rows.{tab}
use Rattle.buffers.specs.Region.{put}
use Rattle.number_exp_tanh.specs.Exp.{k_of}
use Rattle.number_exp_lanes.proofs.straight.k_inside.Given as goal

abbrev pub invariant-loop-l : goal.invariant-loop-l
invariant-loop-l l = (l.l ≤ 16) × (length l.k ≡ 16) × (l.k ≡ put l.initial.k 0 (tab l.l (λ i. k_of (get_or l.x i nan))))
