-- `record::size` meets its contract. Assumes nothing.
use native.Mathlib.Omega.{arith}
use mathlib.Core.Path.{refl}
use Rattle.unpatch_replay.specs.Record.{size_of}
use Rattle.unpatch_replay.proofs.record.size.Goals as goal

-- src/record.rt:26:1
pub returns : goal.returns
unfolding size_of
returns c =
    (rw (c.digit-a.ensures.0, c.digit-b.ensures.0, c.digit-c.ensures.0, c.digit-d.ensures.0, c.digit-e.ensures.0) refl, omega (arith, c.digit-a.ensures.1, c.digit-b.ensures.1, c.digit-c.ensures.1, c.digit-d.ensures.1, c.digit-e.ensures.1))
