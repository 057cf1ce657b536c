-- `print::put_rows` meets its contract: the first y rows are written. Assumes nothing.
use Prim.Native.Nat.{◌*◌, ◌-◌, ◌≤◌}
use mathlib.Core.Path.{◌≡◌}
use lib.ListN.{length}
use Rattle.unpatch_text.specs.Print.{row_lines}
use Rattle.unpatch_text.specs.inner.Steps.{Wrote}
use Rattle.unpatch_text.proofs.print.put_rows.Given as goal

abbrev pub invariant-loop-y : goal.invariant-loop-y
invariant-loop-y l = (l.y ≤ l.h) × (l.from ≡ l.y * l.n) × (length l.out ≡ length l.initial.out) × Wrote l.initial.out l.out l.at (row_lines l.y l.n l.s) l.o
