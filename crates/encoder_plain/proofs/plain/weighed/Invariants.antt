-- `encoder_plain::plain::weighed` meets its contract. Assumes nothing.
use mathlib.Core.Path.{◌≡◌}
use Prim.Native.Nat.{◌+◌, ◌*◌, ◌≤◌}
use lib.ListN.{get_or}
use lib.Ieee.{nan, binary32, mul}
use Rattle.encoder_linear.specs.Linear.{sum_of}
use Rattle.encoder_plain.proofs.plain.weighed.Given as goal

abbrev pub invariant-loop-vi : goal.invariant-loop-vi
invariant-loop-vi l =
    (l.vi ≤ l.t) × (l.sum ≡ sum_of l.vi (λ j. mul binary32 (get_or l.s (l.p + j) nan) (get_or l.s (l.v + (j * l.dim + l.e)) nan)))
