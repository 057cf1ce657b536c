-- `picture_patches::strip::fill_strip` meets its contract. The invariant: the rows passed are filled. Assumes nothing.
use mathlib.Core.Path.{◌≡◌}
use Prim.Native.Nat.{◌-◌, ◌≤◌}
use lib.ListN.{length}
use Rattle.picture_patches.specs.inner.Strip.{Held, Banded}
use Rattle.picture_patches.proofs.strip.fill_strip.Given as goal

abbrev pub invariant-loop-i : goal.invariant-loop-i
invariant-loop-i l =
    (l.i ≤ l.p)
    × (length l.left ≡ length l.initial.left)
    × (length l.right ≡ length l.initial.right)
    × (length l.band ≡ length l.initial.band)
    × Held l.rgb l.f l.x l.n l.held l.left l.right
    × Banded l.rgb l.f l.r l.x l.n l.i l.band
