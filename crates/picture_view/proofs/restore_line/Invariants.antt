-- `picture_view::restore_line` meets its contract. The invariant: the columns passed are written, in every row, and all but the
-- last end with a patch. Assumes nothing.
use mathlib.Core.Path.{◌≡◌}
use Prim.Native.Nat.{◌+◌, ◌*◌, ◌-◌, ◌≤◌, ◌<◌}
use lib.ListN.{length}
use Rattle.buffers.specs.Region.{put_rows}
use Rattle.picture_samples.specs.Samples.{entry}
use Rattle.picture_spot.specs.inner.Spot.{spotted}
use Rattle.picture_view.specs.inner.Rows.{line_by}
use Rattle.picture_view.proofs.restore_line.Given as goal

abbrev pub invariant-loop-x : goal.invariant-loop-x
invariant-loop-x l =
    (l.x ≤ l.wide) × (l.x < l.wide → l.x ≡ l.b * l.p) × (length l.out ≡ length l.initial.out) × (length l.bytes ≡ 3072) × (l.out ≡ put_rows l.initial.out l.tall (λ i. l.at + i * l.stride) (λ i. line_by (spotted l.w (entry l.t)) l.p l.x l.patches l.from i))

abbrev pub decreases-loop-x : goal.decreases-loop-x
decreases-loop-x l = l.wide - l.x
