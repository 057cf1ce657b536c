-- `number_exp_lanes::lanes::r_lanes` meets its contract. Assumes nothing.
use mathlib.Core.Path.{◌≡◌}
use Prim.Native.Nat.{◌-◌, ◌≤◌}
use lib.ListN.{length, get_or}
use lib.Ieee.{nan}
use Rattle.number_exp_tanh.specs.Exp.{r_with}
use Rattle.buffers.specs.Rows.{tab}
use Rattle.buffers.specs.Region.{put}
use Rattle.number_exp_lanes.proofs.lanes.r_lanes.Given as goal

abbrev pub invariant-loop-l : goal.invariant-loop-l
invariant-loop-l l = (l.l ≤ 16) × (length l.r ≡ 16) × (l.r ≡ put l.initial.r 0 (tab l.l (λ i. r_with (get_or l.x i nan) (get_or l.k i nan))))
