-- `replay::replay` meets its contract: the counts so far and the lines that are left give the tally of the whole. Assumes nothing.
use Prim.Native.Nat.{ℕ, ◌-◌, ◌≤◌}
use mathlib.Core.Path.{◌≡◌}
use lib.ListN.{length, get_or, drop, replicate}
use Rattle.number_replay.specs.Lines.{lines}
use Rattle.number_replay.specs.Records.{tally}
use Rattle.number_replay.proofs.replay.replay.Given as goal

abbrev pub invariant-loop-at : goal.invariant-loop-at
invariant-loop-at l = (l.at ≤ length l.text) × (l.n ≤ l.at) × (tally l.counts (lines (drop l.at l.text)) ≡ tally (replicate 8 0) (lines l.text)) × ((k : ℕ) → get_or l.counts k 0 ≤ l.at)

abbrev pub decreases-loop-at : goal.decreases-loop-at
decreases-loop-at l = length l.text - l.at
