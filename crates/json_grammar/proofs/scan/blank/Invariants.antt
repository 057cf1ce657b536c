-- `scan::blank` meets its contract. Assumes nothing.
use mathlib.Core.Path.{◌≡◌}
use Prim.Native.Nat.{◌+◌, ◌-◌, ◌≤◌}
use lib.ListN.{length, drop}
use Rattle.json_grammar.specs.inner.Steps.{skip}
use Rattle.json_grammar.proofs.scan.blank.Given as goal

abbrev pub invariant-loop-i : goal.invariant-loop-i
invariant-loop-i l = (l.at ≤ l.i) × (l.i ≤ l.at + (length l.s - l.at)) × (skip (drop l.at l.s) ≡ skip (drop l.i l.s))
