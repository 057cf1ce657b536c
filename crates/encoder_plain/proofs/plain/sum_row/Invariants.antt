-- `encoder_plain::plain::sum_row` meets its contract. Assumes nothing.
use mathlib.Core.Path.{◌≡◌}
use Prim.Native.Nat.{◌+◌, ◌*◌, ◌≤◌}
use lib.ListN.{length, get_or}
use lib.Ieee.{nan, binary32, mul}
use Rattle.encoder_linear.specs.Linear.{sum_of}
use Rattle.buffers.specs.Rows.{tab}
use Rattle.buffers.specs.Region.{region, put}
use Rattle.encoder_plain.specs.Plain.{floats, off}
use Rattle.encoder_plain.proofs.plain.sum_row.Given as goal

abbrev pub invariant-loop-d : goal.invariant-loop-d
invariant-loop-d l =
    (l.d ≤ l.p.hd) × (length l.s ≡ length l.initial.s) × (l.s ≡ put l.initial.s (l.p.out + off l.p.t l.p.heads l.p.hd l.qi l.h)
    (tab l.d (λ j. sum_of l.p.t (λ vi. mul binary32 (get_or (region l.initial.s l.p.row (l.p.t * l.p.t)) (l.qi * l.p.t + vi) nan) (get_or (region l.initial.s l.p.v (floats l.p.t l.p.heads l.p.hd)) (off l.p.t l.p.heads l.p.hd vi l.h + j) nan)))))
