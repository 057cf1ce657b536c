-- `decimal::read_decimal` meets its contract: what the digits read so far stand for, n, and those that are left stand for the whole.
-- Assumes nothing.
use Rattle.std.proofs.Common.{◌≡◌, drop}
use Rattle.replay.specs.Decimal.{number_from, number_of}
use Rattle.replay.proofs.decimal.read_decimal.Given as goal

abbrev pub invariant-loop-b : goal.invariant-loop-b
invariant-loop-b l = number_of l.s ≡ number_from (drop l.b-index l.s) l.n
