-- `replay::replay` meets its contract: the counts so far and the records that are left give the tally of the whole. Assumes nothing.
use Prim.Native.Nat.{◌+◌, ◌-◌, ◌≤◌}
use lib.ListN.{length}
use Rattle.unpatch_replay.specs.Record.{none, tally}
use Rattle.unpatch_replay.proofs.Records.{Left}
use Rattle.unpatch_replay.proofs.replay.replay.Given as goal

abbrev pub invariant-loop-at : goal.invariant-loop-at
invariant-loop-at l = (l.at ≤ length l.text) × (l.c.agree + l.c.differ ≤ l.at) × Left l.text l.at l.c (tally (length l.text) none l.text)

abbrev pub decreases-loop-at : goal.decreases-loop-at
decreases-loop-at l = length l.text - l.at
