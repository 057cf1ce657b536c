-- `encoder_linear::lanes::pack` meets its contract. Assumes nothing.
use mathlib.Core.Path.{◌≡◌}
use Prim.Native.Nat.{◌+◌, ◌*◌, ◌≤◌}
use lib.ListN.{length, get_or}
use lib.Ieee.{nan}
use Rattle.encoder_linear.specs.inner.Lanes.{filled}
use Rattle.encoder_linear.proofs.lanes.pack.Given as goal

abbrev pub invariant-loop-l : goal.invariant-loop-l
invariant-loop-l l =
    (l.l ≤ l.r) × (length l.xt ≡ length l.initial.xt) × (l.xt ≡ filled l.initial.xt 0 l.m l.n l.l (λ k i. get_or l.x (l.at + i * l.nin + k) nan))
