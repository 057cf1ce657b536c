-- `encoder_plain::plain::softmax_rows` meets its contract. Assumes nothing.
use mathlib.Core.Path.{◌≡◌}
use Prim.Native.Nat.{◌*◌, ◌≤◌}
use lib.ListN.{length}
use Rattle.buffers.specs.Each.{each_row}
use Rattle.buffers.specs.Region.{region, put}
use Rattle.encoder_softmax.specs.Softmax.{softmax_of}
use Rattle.encoder_plain.proofs.plain.softmax_rows.Given as goal

abbrev pub invariant-loop-qi : goal.invariant-loop-qi
invariant-loop-qi l =
    (l.qi ≤ l.t) × (length l.s ≡ length l.initial.s) × (l.s ≡ put l.initial.s l.m (each_row l.qi l.t (λ _. softmax_of l.t) (region l.initial.s l.m (l.t * l.t))))
