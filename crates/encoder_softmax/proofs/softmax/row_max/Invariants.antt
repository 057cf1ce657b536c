-- `encoder_softmax::softmax::row_max` meets its contract. Assumes nothing.
use mathlib.Core.Path.{◌≡◌}
use Prim.Native.Nat.{◌≤◌}
use lib.ListN.{length, get_or}
use lib.Ieee.{nan}
use Rattle.encoder_softmax.specs.Softmax.{largest}
use Rattle.encoder_softmax.proofs.softmax.row_max.Given as goal

abbrev pub invariant-loop-v : goal.invariant-loop-v
invariant-loop-v l = (l.v-index ≤ length l.x) × (l.m ≡ largest l.v-index (λ k. get_or l.x k nan))
