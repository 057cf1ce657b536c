-- `hex::read_hex` meets its contract: what the digits read so far stand for, n, and those that are left stand for the whole.
-- Assumes nothing.
use Prim.Native.Nat.{◌*◌, ◌^◌, ◌<◌}
use mathlib.Core.Path.{◌≡◌}
use lib.ListN.{drop}
use Rattle.number_replay.specs.Hex.{word_from}
use Rattle.number_replay.proofs.hex.read_hex.Given as goal

abbrev pub invariant-loop-b : goal.invariant-loop-b
invariant-loop-b l = (l.n < 2 ^ (4 * l.b-index)) × (word_from 0 l.s ≡ word_from l.n (drop l.b-index l.s))
