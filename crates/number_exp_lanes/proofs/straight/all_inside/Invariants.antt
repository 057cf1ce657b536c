-- `straight::all_inside` meets its contract. Assumes nothing.
use mathlib.Core.Path.{◌≡◌}
use Prim.Native.Nat.{◌-◌, ◌≤◌}
use lib.ListN.{get_or}
use lib.Ieee.{nan}
use Rattle.buffers.specs.Rows.{all}
use Rattle.number_exp_lanes.specs.inner.Near.{inside}
use Rattle.number_exp_lanes.proofs.straight.all_inside.Given as goal

abbrev pub invariant-loop-l : goal.invariant-loop-l
invariant-loop-l l = (l.l ≤ 16) × (l.ok ≡ all l.l (λ i. inside (get_or l.x i nan)))
