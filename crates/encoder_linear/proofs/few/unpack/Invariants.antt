-- `encoder_linear::few::unpack` meets its contract. Assumes nothing.
use mathlib.Core.Path.{◌≡◌}
use Prim.Native.Nat.{◌+◌, ◌*◌, ◌≤◌}
use lib.ListN.{length, get_or}
use lib.Ieee.{nan}
use Rattle.encoder_linear.specs.inner.Lanes.{filled}
use Rattle.encoder_linear.proofs.few.unpack.Given as goal

abbrev pub invariant-loop-l : goal.invariant-loop-l
invariant-loop-l l = (l.l ≤ l.r) × (length l.s ≡ length l.initial.s) × (l.s ≡ filled l.initial.s l.at l.nout l.l 4 (λ i o. get_or l.b (i + o * 4) nan))
