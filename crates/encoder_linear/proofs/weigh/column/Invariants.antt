-- `encoder_linear::weigh::column` meets its contract. Assumes nothing.
use mathlib.Core.Path.{◌≡◌}
use Prim.Native.Nat.{◌+◌, ◌*◌, ◌≤◌}
use lib.ListN.{length, get_or}
use lib.Ieee.{nan, binary32, mul}
use Rattle.encoder_linear.specs.Linear.{sum_of}
use Rattle.encoder_linear.proofs.weigh.column.Given as goal

abbrev pub invariant-loop-j : goal.invariant-loop-j
invariant-loop-j l = (l.j ≤ length l.p) × (l.a ≡ l.j * l.dim + l.o) × (l.acc ≡ sum_of l.j (λ k. mul binary32 (get_or l.p k nan) (get_or l.v (k * l.dim + l.o) nan)))
