-- `picture_view::patch_bytes` meets its contract. The invariant: the channels passed are written. Assumes nothing.
use mathlib.Core.Path.{◌≡◌}
use Prim.Native.Nat.{◌+◌, ◌*◌, ◌-◌, ◌≤◌}
use lib.ListN.{length}
use Rattle.buffers.specs.Rows.{rows}
use Rattle.buffers.specs.Region.{put}
use Rattle.picture_samples.specs.Samples.{entry}
use Rattle.picture_spot.specs.inner.Spot.{spotted}
use Rattle.picture_view.specs.inner.Rows.{run_by}
use Rattle.picture_view.proofs.patch_bytes.Given as goal

abbrev pub invariant-loop-c : goal.invariant-loop-c
invariant-loop-c l =
    (l.c ≤ 3) × (l.o ≡ 0 + l.c * l.n) × (length l.bytes ≡ length l.initial.bytes) × (l.bytes ≡ put l.initial.bytes 0 (rows l.c (λ i. run_by (spotted l.w (entry l.t)) i l.n l.patches (l.from + i * l.n))))
