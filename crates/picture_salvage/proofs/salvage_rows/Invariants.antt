-- `picture_salvage::salvage_rows` meets its contract. The invariant: the rows passed are written. Assumes nothing.
use mathlib.Core.Path.{◌≡◌}
use Prim.Native.Nat.{◌+◌, ◌*◌, ◌-◌, ◌≤◌}
use lib.ListN.{length}
use Rattle.buffers.specs.Region.{put}
use Rattle.picture_samples.specs.Samples.{entry}
use Rattle.picture_salvage.specs.inner.Loops.{saved_rows}
use Rattle.picture_salvage.proofs.salvage_rows.Given as goal

abbrev pub invariant-loop-y : goal.invariant-loop-y
invariant-loop-y l =
    (l.y ≤ l.tall) × (l.o ≡ 0 + l.y * (l.gw * (l.p * 3))) × (length l.out ≡ length l.initial.out) × (l.out ≡ put l.initial.out 0 (saved_rows (entry l.t) l.p l.gw l.bits l.y))
