-- `encoder_linear::pair::wide_pair` meets its contract: each lane is a column of its own. Assumes nothing.
use Prim.Native.Nat.{◌+◌, ◌*◌, ◌≤◌}
use mathlib.Core.Path.{◌≡◌}
use lib.ListN.{length}
use Rattle.buffers.specs.Rows.{tab}
use Rattle.encoder_linear.proofs.Columns.{begun_column}
use Rattle.encoder_linear.proofs.pair.wide_pair.Given as goal

abbrev pub invariant-loop-j : goal.invariant-loop-j
invariant-loop-j l = (l.j ≤ length l.p) × (l.a ≡ l.j * l.dim + l.o) × (l.b ≡ tab 16 (begun_column l.j l.dim l.o l.p l.v)) × (l.c ≡ tab 16 (begun_column l.j l.dim l.o l.r l.v))
