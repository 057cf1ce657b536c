-- `print::put_bytes` meets its contract: the first i bytes are written. Assumes nothing.
use Prim.Native.Nat.{◌-◌, ◌≤◌}
use mathlib.Core.Path.{◌≡◌}
use lib.ListN.{length, take}
use Rattle.buffers.specs.Region.{put}
use Rattle.unpatch_text.proofs.print.put_bytes.Given as goal

abbrev pub invariant-loop-i : goal.invariant-loop-i
invariant-loop-i l = (l.i ≤ length l.s) × (length l.out ≡ length l.initial.out) × (l.out ≡ put l.initial.out l.at (take l.i l.s))
