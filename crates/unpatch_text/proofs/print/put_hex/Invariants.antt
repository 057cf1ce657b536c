-- `print::put_hex` meets its contract: the digits of the first i bytes are written. Assumes nothing.
use Prim.Native.Nat.{◌+◌, ◌*◌, ◌-◌, ◌≤◌}
use mathlib.Core.Path.{◌≡◌}
use lib.ListN.{length, take}
use Rattle.buffers.specs.Region.{put}
use Rattle.unpatch_text.specs.Print.{hex_text}
use Rattle.unpatch_text.proofs.print.put_hex.Given as goal

abbrev pub invariant-loop-i : goal.invariant-loop-i
invariant-loop-i l = (l.i ≤ length l.s) × (l.o ≡ l.at + 2 * l.i) × (length l.out ≡ length l.initial.out) × (l.out ≡ put l.initial.out l.at (hex_text (take l.i l.s)))
