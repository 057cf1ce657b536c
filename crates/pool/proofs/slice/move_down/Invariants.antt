-- `pool::slice::move_down` meets its contract: what is read lies behind what is written. Assumes nothing.
use mathlib.Core.Path.{◌≡◌}
use Prim.Native.Nat.{◌-◌, ◌≤◌}
use lib.ListN.{length, get_or}
use lib.Ieee.{nan}
use Rattle.buffers.specs.Rows.{tab}
use Rattle.buffers.specs.Region.{region, put}
use Rattle.pool.proofs.slice.move_down.Given as goal

abbrev pub invariant-loop-i : goal.invariant-loop-i
invariant-loop-i l = (l.i ≤ l.n) × (length l.s ≡ length l.initial.s) × (l.s ≡ put l.initial.s l.to (tab l.i (λ j. get_or (region l.initial.s l.from l.n) j nan)))
