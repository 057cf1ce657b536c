-- `text::replay` meets its contract: the counts so far, and the lines that are left with pool and slice as they are, give the tally of the whole. Assumes nothing.
use mathlib.Core.Path.{◌≡◌}
use Prim.Native.Nat.{ℕ, ◌-◌, ◌≤◌}
use lib.ListN.{length, get_or, drop, replicate}
use Rattle.number_floats.specs.Constants.{zero32}
use Rattle.pool.specs.Pool.{new_pool}
use Rattle.replay.specs.Pieces.{pieces}
use Rattle.pool_replay.specs.Record.{tally}
use Rattle.pool_replay.proofs.text.replay.Given as goal

abbrev pub invariant-loop-at : goal.invariant-loop-at
invariant-loop-at l =
    (l.at ≤ length l.text) × (length l.slice ≡ 512) × (tally l.counts l.p l.slice (pieces 10 (drop l.at l.text)) ≡ tally (replicate 7 0) (new_pool 0) (replicate 512 zero32) (pieces 10 l.text)) × ((k : ℕ) → get_or l.counts k 0 ≤ l.at)

abbrev pub decreases-loop-at : goal.decreases-loop-at
decreases-loop-at l = length l.text - l.at
