-- `picture_view::copy_run` meets its contract. The invariant: the pixels passed are written. Assumes nothing.
use mathlib.Core.Path.{◌≡◌}
use Prim.Native.Nat.{◌+◌, ◌*◌, ◌-◌, ◌≤◌}
use lib.ListN.{length}
use Rattle.buffers.specs.Region.{put}
use Rattle.picture_view.specs.inner.Rows.{pixels_of}
use Rattle.picture_view.proofs.copy_run.Given as goal

abbrev pub invariant-loop-j : goal.invariant-loop-j
invariant-loop-j l = (l.j ≤ l.n) × (l.o ≡ l.at + l.j * 3) × (length l.out ≡ length l.initial.out) × (l.out ≡ put l.initial.out l.at (pixels_of l.bytes l.m l.j l.from))
