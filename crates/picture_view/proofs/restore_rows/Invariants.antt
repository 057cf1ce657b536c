-- `picture_view::restore_rows` meets its contract. The invariant: the rows passed are written, and all but the last end with a
-- line of patches. Assumes nothing.
use mathlib.Core.Path.{◌≡◌}
use Prim.Native.Nat.{◌+◌, ◌*◌, ◌-◌, ◌≤◌, ◌<◌}
use lib.ListN.{length}
use Rattle.buffers.specs.Region.{put_rows}
use Rattle.picture_samples.specs.Samples.{entry}
use Rattle.picture_spot.specs.inner.Spot.{spotted}
use Rattle.picture_view.specs.inner.Rows.{row_by}
use Rattle.picture_view.proofs.restore_rows.Given as goal

abbrev pub invariant-loop-y : goal.invariant-loop-y
invariant-loop-y l =
    (l.y ≤ l.tall) × (l.y < l.tall → l.y ≡ l.a * l.p) × (length l.out ≡ length l.initial.out) × (l.out ≡ put_rows l.initial.out l.y (λ i. l.at + i * l.stride) (λ i. row_by (spotted l.w (entry l.t)) l.p l.gw l.wide l.patches i))

abbrev pub decreases-loop-y : goal.decreases-loop-y
decreases-loop-y l = l.tall - l.y
