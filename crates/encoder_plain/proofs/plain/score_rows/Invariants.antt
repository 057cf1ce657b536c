-- `encoder_plain::plain::score_rows` meets its contract. Assumes nothing.
use mathlib.Core.Path.{◌≡◌}
use Prim.Native.Nat.{◌≤◌}
use lib.ListN.{length}
use Rattle.buffers.specs.Rows.{tab, rows}
use Rattle.buffers.specs.Region.{region, put}
use Rattle.encoder_plain.specs.Plain.{floats, score}
use Rattle.encoder_plain.proofs.plain.score_rows.Given as goal

abbrev pub invariant-loop-qi : goal.invariant-loop-qi
invariant-loop-qi l =
    (l.qi ≤ l.p.t) × (length l.s ≡ length l.initial.s) × (l.s ≡ put l.initial.s l.p.row (rows l.qi (λ i. tab l.p.t (score l.p.t l.p.heads l.p.hd l.p.scaling (region l.initial.s l.p.q (floats l.p.t l.p.heads l.p.hd)) (region l.initial.s l.p.k (floats l.p.t l.p.heads l.p.hd)) l.h i))))
