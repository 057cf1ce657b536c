-- `hex::hex_bytes` meets its contract: the bytes written so far, and those of the digits that are left, are the whole. Assumes nothing.
use Prim.Native.Nat.{◌*◌, ◌-◌, ◌≤◌}
use mathlib.Core.Path.{◌≡◌}
use lib.ListN.{length, take, drop}
use Rattle.buffers.specs.Region.{region}
use Rattle.unpatch_form.specs.Words.{joined}
use Rattle.unpatch_form.specs.Hex.{hex_pairs}
use Rattle.unpatch_read.proofs.hex.hex_bytes.Given as goal

abbrev pub invariant-loop-i : goal.invariant-loop-i
invariant-loop-i l = (l.i ≤ l.half) × (length l.rgb ≡ length l.initial.rgb) × (take l.at l.rgb ≡ take l.at l.initial.rgb) × (hex_pairs l.s ≡ joined (region l.rgb l.at l.i) (hex_pairs (drop (l.i * 2) l.s)))
