-- `scan::find` meets its contract: the first b stands i further than in what is left from i on. Assumes nothing.
use Prim.Native.Nat.{◌+◌}
use mathlib.Core.Path.{◌≡◌}
use lib.ListN.{drop}
use Rattle.unpatch_form.specs.inner.Steps.{until}
use Rattle.unpatch_form.proofs.scan.find.Given as goal

abbrev pub invariant-loop-i : goal.invariant-loop-i
invariant-loop-i l = until l.b l.s ≡ l.i + until l.b (drop l.i l.s)
