-- `replay::line_len` meets its contract: no byte that was passed is a newline. Assumes nothing.
use Prim.Native.Nat.{ℕ, ◌-◌, ◌≤◌, ◌<◌}
use mathlib.Core.Path.{◌≡◌}
use mathlib.Core.List.{List}
use lib.ListN.{length, get_or}
use Rattle.number_replay.proofs.replay.line_len.Given as goal

-- no byte below i is a newline
abbrev pub None : List ℕ → ℕ → Type 0
None s i = (k : ℕ) → k < i → get_or s k 0 ≡ 10 → ⊥

abbrev pub invariant-loop-i : goal.invariant-loop-i
invariant-loop-i l = (l.i ≤ length l.text) × None l.text l.i

abbrev pub decreases-loop-i : goal.decreases-loop-i
decreases-loop-i l = length l.text - l.i
