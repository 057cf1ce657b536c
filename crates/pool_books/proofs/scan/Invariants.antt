-- `pool_books::scan` meets its contract. Assumes nothing.
use Prim.Native.Nat.{◌-◌}
use Rattle.pool_books.proofs.Scans.{Judged, Sought}
use Rattle.pool_books.proofs.scan.Given as goal

abbrev pub invariant-loop-i : goal.invariant-loop-i
invariant-loop-i l = Judged l.p l.n l.floats l.end l.i

abbrev pub invariant-loop-j : goal.invariant-loop-j
invariant-loop-j l = Sought l.p l.key l.j
