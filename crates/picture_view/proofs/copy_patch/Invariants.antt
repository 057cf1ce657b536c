-- `picture_view::copy_patch` meets its contract. The invariant: the rows passed are written. Assumes nothing.
use mathlib.Core.Path.{◌≡◌}
use Prim.Native.Nat.{◌+◌, ◌*◌, ◌-◌, ◌≤◌}
use lib.ListN.{length}
use Rattle.buffers.specs.Region.{put_rows}
use Rattle.picture_view.specs.inner.Rows.{pixels_of}
use Rattle.picture_view.proofs.copy_patch.Given as goal

abbrev pub invariant-loop-i : goal.invariant-loop-i
invariant-loop-i l =
    (l.i ≤ l.tall) × (length l.out ≡ length l.initial.out) × (l.out ≡ put_rows l.initial.out l.i (λ k. l.at + k * l.stride) (λ k. pixels_of l.bytes (l.p * l.p) l.wide (k * l.p)))
