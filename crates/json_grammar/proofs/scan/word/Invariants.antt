-- `scan::word` meets its contract. Assumes nothing.
use mathlib.Core.Path.{◌≡◌}
use Prim.Native.Nat.{ℕ, ◌+◌, ◌-◌, ◌≤◌}
use lib.ListN.{length, drop}
use Rattle.json_grammar.specs.inner.Machine as M
use Rattle.json_grammar.specs.inner.Steps.{letters}
use Rattle.json_grammar.proofs.scan.word.Given as goal

abbrev pub invariant-loop-b : goal.invariant-loop-b
invariant-loop-b l = (l.at ≤ l.i) × (l.i ≤ l.at + (length l.s - l.at)) × ((d : ℕ) → M.go d (letters l.w) (drop l.at l.s) ≡ M.go d (letters (drop l.b-index l.w)) (drop l.i l.s))
