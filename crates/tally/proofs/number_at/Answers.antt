-- `number_at` meets its contract. Assumes nothing.
use mathlib.Core.Path.{◌≡◌, refl}
use Prim.Native.Nat.{◌+◌}
use native.Mathlib.Omega.{arith}
use Rattle.tally.specs.Record.{number_at}
use Rattle.tally.proofs.number_at.Goals as goal

pub returns-clause-is : goal.returns-clause-is
unfolding number_at
returns-clause-is c =
    let z : c.args.at + 0 ≡ c.args.at = omega arith in
    rw (c.digit-a.ensures.0, c.digit-b.ensures.0, c.digit-c.ensures.0, c.digit-d.ensures.0, c.digit-e.ensures.0, z) refl
