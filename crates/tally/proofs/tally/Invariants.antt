-- `tally` meets its contract: the counts so far and the records that are left give those of the whole. Assumes nothing.
use Rattle.std.proofs.Common.{◌+◌, ◌≤◌, length}
use Rattle.tally.specs.Tally.{none}
use Rattle.tally.proofs.Tallies.{Leads}
use Rattle.tally.proofs.tally.Given as goal

abbrev pub invariant-loop-rest : goal.invariant-loop-rest
invariant-loop-rest g l = (l.c.agree + l.c.differ + length l.rest ≤ length l.text) × Leads (g.J.Judge.finds l.judge) none l.text l.c l.rest

abbrev pub decreases-loop-rest : goal.decreases-loop-rest
decreases-loop-rest g l = length l.rest
