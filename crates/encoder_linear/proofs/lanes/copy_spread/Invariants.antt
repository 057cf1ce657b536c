-- `encoder_linear::lanes::copy_spread` meets its contract. Assumes nothing.
use mathlib.Core.Path.{◌≡◌}
use Prim.Native.Nat.{◌+◌, ◌*◌, ◌≤◌}
use lib.ListN.{length, get_or}
use lib.Ieee.{nan}
use Rattle.encoder_linear.specs.inner.Lanes.{spread}
use Rattle.encoder_linear.proofs.lanes.copy_spread.Given as goal

abbrev pub invariant-loop-i : goal.invariant-loop-i
invariant-loop-i l = (l.i ≤ l.n) × (length l.d ≡ length l.initial.d) × (l.d ≡ spread l.initial.d l.at l.m l.i (λ j. get_or l.v (l.o + j * l.q) nan))
