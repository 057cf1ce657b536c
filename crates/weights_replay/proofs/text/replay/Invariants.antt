-- `text::replay` meets its contract. Assumes nothing.
use Prim.Native.Nat.{◌+◌, ◌-◌, ◌≤◌}
use lib.ListN.{length}
use Rattle.weights_replay.specs.Record.{none}
use Rattle.weights_replay.proofs.Records.{Leads}
use Rattle.weights_replay.proofs.text.replay.Given as goal

abbrev pub invariant-loop-at : goal.invariant-loop-at
invariant-loop-at l = (l.at ≤ length l.text) × (l.c.agree + l.c.differ ≤ l.at) × Leads none l.text l.at l.c

abbrev pub decreases-loop-at : goal.decreases-loop-at
decreases-loop-at l = length l.text - l.at
