-- `read::read` meets its contract: the bytes behind those that were read are zeros up to i. Assumes nothing.
use Prim.Native.Nat.{◌-◌, ◌≤◌}
use mathlib.Core.Path.{◌≡◌}
use Rattle.buffers.specs.Rows.{tab}
use Rattle.buffers.specs.Region.{put}
use Rattle.unpatch_read.proofs.read.read.Given as goal

abbrev pub invariant-loop-i : goal.invariant-loop-i
invariant-loop-i l = (l.initial.i ≤ l.i) × (l.i ≤ 24576) × (l.rgb ≡ put l.initial.rgb l.initial.i (tab (l.i - l.initial.i) (λ _. 0)))
