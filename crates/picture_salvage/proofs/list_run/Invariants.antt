-- `picture_salvage::list_run` meets its contract. The invariant: those passed of which no byte was found are listed. Assumes nothing.
use mathlib.Core.Path.{◌≡◌}
use Prim.Native.Nat.{◌+◌, ◌*◌, ◌-◌, ◌≤◌}
use lib.ListN.{length}
use Rattle.buffers.specs.Rows.{count}
use Rattle.buffers.specs.Region.{put}
use Rattle.picture_salvage.specs.inner.Loops.{none_at, entries_by}
use Rattle.picture_salvage.proofs.list_run.Given as goal

abbrev pub invariant-loop-k : goal.invariant-loop-k
invariant-loop-k l =
    (l.k ≤ l.n) × (l.e ≡ l.o + count l.k (none_at l.found) * 3) × (length l.list ≡ length l.initial.list) × (l.list ≡ put l.initial.list l.o (entries_by (none_at l.found) l.bits l.at l.q l.d l.k))
