-- `picture_salvage::save_run` meets its contract. The invariant: the pixels passed are written. Assumes nothing.
use mathlib.Core.Path.{◌≡◌}
use Prim.Native.Nat.{◌+◌, ◌*◌, ◌-◌, ◌≤◌}
use lib.ListN.{length}
use Rattle.buffers.specs.Region.{put}
use Rattle.picture_salvage.specs.inner.Loops.{saved_pixels}
use Rattle.picture_salvage.proofs.save_run.Given as goal

abbrev pub invariant-loop-j : goal.invariant-loop-j
invariant-loop-j l = (l.j ≤ l.n) × (l.o ≡ l.at + l.j * 3) × (length l.out ≡ length l.initial.out) × (l.out ≡ put l.initial.out l.at (saved_pixels l.red l.green l.blue l.j))
