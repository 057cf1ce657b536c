-- `lines::rows` meets its contract: the bytes of the rows read so far, and those of the lines that are left, are the whole. Assumes nothing.
use Prim.Native.Nat.{◌*◌, ◌-◌, ◌≤◌}
use mathlib.Core.Path.{◌≡◌}
use lib.ListN.{length, take, drop}
use Rattle.unpatch_form.specs.Words.{joined}
use Rattle.unpatch_form.specs.Form.{lines, read_rows}
use Rattle.unpatch_read.proofs.lines.rows.Given as goal

abbrev pub invariant-loop-from : goal.invariant-loop-from
invariant-loop-from l = (l.from ≤ length l.text) × (2 * l.n ≤ l.from) × (l.i ≤ l.from) × (length l.rgb ≡ length l.initial.rgb) × (read_rows 0 (lines l.text) ≡ joined (take l.n l.rgb) (read_rows l.i (lines (drop l.from l.text))))

abbrev pub decreases-loop-from : goal.decreases-loop-from
decreases-loop-from l = length l.text - l.from
