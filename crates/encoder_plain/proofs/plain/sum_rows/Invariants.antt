-- `encoder_plain::plain::sum_rows` meets its contract. Assumes nothing.
use mathlib.Core.Path.{◌≡◌}
use Prim.Native.Nat.{◌+◌, ◌*◌, ◌≤◌}
use lib.ListN.{length}
use Rattle.buffers.specs.Region.{region, put_rows}
use Rattle.encoder_plain.specs.Plain.{floats, off, sums}
use Rattle.encoder_plain.proofs.plain.sum_rows.Given as goal

abbrev pub invariant-loop-qi : goal.invariant-loop-qi
invariant-loop-qi l =
    (l.qi ≤ l.p.t) × (length l.s ≡ length l.initial.s) × (l.s ≡ put_rows l.initial.s l.qi (λ i. l.p.out + off l.p.t l.p.heads l.p.hd i l.h) (sums l.p.t l.p.heads l.p.hd (region l.initial.s l.p.v (floats l.p.t l.p.heads l.p.hd)) (region l.initial.s l.p.row (l.p.t * l.p.t)) l.h))
