-- `encoder_plain::plain::every_head` meets its contract. Assumes nothing.
use mathlib.Core.Path.{◌≡◌}
use Prim.Native.Nat.{◌+◌, ◌*◌, ◌≤◌}
use lib.ListN.{length}
use Rattle.number_floats.specs.Constants.{zero32}
use Rattle.buffers.specs.Rows.{rows}
use Rattle.buffers.specs.Region.{region, put_rows}
use Rattle.buffers.specs.Each.{blank}
use Rattle.encoder_kernels.specs.Kernels.{all_finite}
use Rattle.encoder_plain.specs.Plain.{floats, scores, soft_rows, sums}
use Rattle.encoder_plain.proofs.plain.every_head.Given as goal

abbrev pub invariant-loop-h : goal.invariant-loop-h
invariant-loop-h l =
    (l.h ≤ l.p.heads) × (length l.s ≡ length l.initial.s) × (l.ok ≡ all_finite (rows l.h (scores l.p.t l.p.heads l.p.hd l.p.scaling (region l.initial.s l.p.q (floats l.p.t l.p.heads l.p.hd)) (region l.initial.s l.p.k (floats l.p.t l.p.heads l.p.hd)))))
    × (blank zero32 l.p.row (l.p.t * l.p.t) l.s ≡ put_rows (blank zero32 l.p.row (l.p.t * l.p.t) l.initial.s) l.p.t (λ i. l.p.out + i * (l.p.heads * l.p.hd))
    (λ i. rows l.h (λ j. sums l.p.t l.p.heads l.p.hd (region l.initial.s l.p.v (floats l.p.t l.p.heads l.p.hd)) (soft_rows l.p.t (scores l.p.t l.p.heads l.p.hd l.p.scaling (region l.initial.s l.p.q (floats l.p.t l.p.heads l.p.hd)) (region l.initial.s l.p.k (floats l.p.t l.p.heads l.p.hd)) j)) j i)))
