-- `picture_patches::weigh::weigh_row` meets its contract. The invariant: the columns passed are weighed. Assumes nothing.
use mathlib.Core.Path.{◌≡◌}
use Prim.Native.Nat.{◌+◌, ◌*◌, ◌-◌, ◌≤◌}
use lib.ListN.{length}
use Rattle.buffers.specs.Region.{put}
use Rattle.picture_patches.specs.inner.Strip.{left_row, right_row}
use Rattle.picture_patches.proofs.weigh.weigh_row.Given as goal

abbrev pub invariant-loop-j : goal.invariant-loop-j
invariant-loop-j l =
    (length l.left ≡ length l.initial.left)
    × (length l.right ≡ length l.initial.right)
    × (l.left ≡ put l.initial.left l.at (left_row l.rgb l.w l.tw l.y l.x l.j))
    × (l.right ≡ put l.initial.right l.at (right_row l.rgb l.w l.tw l.y l.x l.j))
