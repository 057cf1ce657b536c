-- `picture_patches::weigh::mix_row` meets its contract. Assumes nothing.
use mathlib.Core.Path.{◌≡◌}
use Prim.Native.Nat.{◌-◌, ◌≤◌}
use lib.ListN.{length}
use Rattle.buffers.specs.Region.{put}
use Rattle.picture_patches.specs.inner.Strip.{mixed_row}
use Rattle.picture_patches.proofs.weigh.mix_row.Given as goal

abbrev pub invariant-loop-e : goal.invariant-loop-e
invariant-loop-e l = (l.e ≤ l.k) × (length l.out ≡ length l.initial.out) × (l.out ≡ put l.initial.out l.at (mixed_row l.left l.right l.u l.v l.g l.f l.e))
