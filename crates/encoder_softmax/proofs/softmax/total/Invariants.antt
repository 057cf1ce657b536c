-- `encoder_softmax::softmax::total` meets its contract. Assumes nothing.
use mathlib.Core.Path.{◌≡◌}
use Prim.Native.Nat.{◌≤◌}
use lib.ListN.{length, get_or}
use lib.Ieee.{nan}
use Rattle.encoder_linear.specs.Linear.{sum_of}
use Rattle.encoder_softmax.proofs.softmax.total.Given as goal

abbrev pub invariant-loop-v : goal.invariant-loop-v
invariant-loop-v l = (l.v-index ≤ length l.x) × (l.acc ≡ sum_of l.v-index (λ k. get_or l.x k nan))
