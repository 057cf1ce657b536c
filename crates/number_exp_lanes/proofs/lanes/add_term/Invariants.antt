-- `number_exp_lanes::lanes::add_term` meets its contract. Assumes nothing.
use mathlib.Core.Path.{◌≡◌}
use Prim.Native.Nat.{◌-◌, ◌≤◌}
use lib.ListN.{length, get_or}
use lib.Ieee.{nan}
use Rattle.number_exp_tanh.specs.Exp.{term}
use Rattle.buffers.specs.Rows.{tab}
use Rattle.buffers.specs.Region.{put}
use Rattle.number_exp_lanes.proofs.lanes.add_term.Given as goal

abbrev pub invariant-loop-l : goal.invariant-loop-l
invariant-loop-l l = (l.l ≤ 16) × (length l.q ≡ 16) × (l.q ≡ put l.initial.q 0 (tab l.l (λ i. term (get_or l.r i nan) (get_or l.initial.q i nan) l.n)))
