-- `encoder_linear::weigh::wide` meets its contract: each lane is a column of its own. Assumes nothing.
use Prim.Native.Nat.{◌+◌, ◌*◌, ◌≤◌}
use mathlib.Core.Path.{◌≡◌}
use lib.Ieee.{nan, binary32, mul}
use Rattle.buffers.specs.Rows.{tab}
use Rattle.encoder_linear.specs.Linear.{sum_of}
use lib.ListN.{length, get_or}
use Rattle.encoder_linear.proofs.weigh.wide.Given as goal

abbrev pub invariant-loop-j : goal.invariant-loop-j
invariant-loop-j l = (l.j ≤ length l.p) × (l.a ≡ l.j * l.dim + l.o) × (l.b ≡ tab 16 (λ i. sum_of l.j (λ k. mul binary32 (get_or l.p k nan) (get_or l.v (k * l.dim + (l.o + i)) nan))))
