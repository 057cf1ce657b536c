-- `encoder_plain::plain::dot` meets its contract. Assumes nothing.
use mathlib.Core.Path.{◌≡◌}
use Prim.Native.Nat.{◌+◌, ◌≤◌}
use lib.ListN.{get_or}
use lib.Ieee.{nan, binary32, mul}
use Rattle.encoder_linear.specs.Linear.{sum_of}
use Rattle.encoder_plain.proofs.plain.dot.Given as goal

abbrev pub invariant-loop-d : goal.invariant-loop-d
invariant-loop-d l =
    (l.d ≤ l.n) × (l.dot ≡ sum_of l.d (λ j. mul binary32 (get_or l.s (l.a + j) nan) (get_or l.s (l.b + j) nan)))
