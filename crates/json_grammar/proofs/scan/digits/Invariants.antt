-- `scan::digits` meets its contract. Assumes nothing.
use mathlib.Core.Path.{◌≡◌}
use mathlib.Core.List.{[], ◌∷◌}
use Prim.Native.Nat.{ℕ, ◌+◌, ◌-◌, ◌≤◌}
use lib.ListN.{length, drop}
use Rattle.json_grammar.specs.inner.Machine as M
use Rattle.json_grammar.proofs.scan.digits.Given as goal

abbrev pub invariant-loop-i : goal.invariant-loop-i
invariant-loop-i l = (l.at ≤ l.i) × (l.i ≤ l.at + (length l.s - l.at)) × ((d : ℕ) → M.go d (M.digits ∷ []) (drop l.at l.s) ≡ M.go d (M.digits ∷ []) (drop l.i l.s))
