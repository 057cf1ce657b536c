-- `picture_salvage::list_runs` meets its contract. The invariant: the runs passed are listed. Assumes nothing.
use mathlib.Core.Path.{◌≡◌}
use Prim.Native.Nat.{◌*◌, ◌-◌, ◌≤◌}
use lib.ListN.{length}
use Rattle.buffers.specs.Region.{put}
use Rattle.picture_samples.specs.Samples.{entry}
use Rattle.picture_salvage.specs.inner.Loops.{bad_run, all_entries}
use Rattle.picture_salvage.proofs.list_runs.Given as goal

abbrev pub invariant-loop-r : goal.invariant-loop-r
invariant-loop-r l =
    (l.r ≤ l.m) × (l.e ≡ bad_run (entry l.t) l.p l.bits l.r * 3) × (length l.list ≡ length l.initial.list) × (l.list ≡ put l.initial.list 0 (all_entries (entry l.t) l.p l.bits l.r)) × (length l.found ≡ 1024)
