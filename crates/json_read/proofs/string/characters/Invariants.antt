-- `string::characters` meets its contract. Assumes nothing.
use mathlib.Core.Path.{◌≡◌}
use mathlib.Core.List.{[], ◌∷◌}
use Prim.Native.Nat.{ℕ, ◌+◌, ◌-◌, ◌≤◌}
use lib.ListN.{length, drop}
use Rattle.json_grammar.specs.inner.Machine as M
use Rattle.json_read.proofs.string.characters.Given as goal

abbrev pub invariant-loop-i : goal.invariant-loop-i
invariant-loop-i l = (l.at ≤ l.i) × (l.i ≤ l.at + (length l.s - l.at)) × ((d : ℕ) → M.go d (M.chars ∷ []) (drop l.at l.s) ≡ M.go d (M.chars ∷ []) (drop l.i l.s))

abbrev pub decreases-loop-i : goal.decreases-loop-i
decreases-loop-i l = length l.s - l.i
