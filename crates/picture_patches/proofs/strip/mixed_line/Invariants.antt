-- `picture_patches::strip::mixed_line` meets its contract. The invariant: the patches passed are written. Assumes nothing.
use mathlib.Core.Path.{◌≡◌}
use Prim.Native.Nat.{◌+◌, ◌*◌, ◌-◌, ◌≤◌}
use lib.ListN.{length}
use Rattle.buffers.specs.Rows.{rows}
use Rattle.buffers.specs.Region.{put}
use Rattle.picture_samples.specs.Samples.{entry}
use Rattle.picture_patches.specs.Patches.{patch_at}
use Rattle.picture_patches.specs.inner.Frame.{mixed}
use Rattle.picture_patches.proofs.strip.mixed_line.Given as goal

abbrev pub invariant-loop-b : goal.invariant-loop-b
invariant-loop-b l =
    (l.b ≤ l.gw)
    × (l.o ≡ l.at + l.b * (3 * (l.p * l.p)))
    × (length l.out ≡ length l.initial.out)
    × (length l.left ≡ length l.initial.left)
    × (length l.right ≡ length l.initial.right)
    × (length l.band ≡ length l.initial.band)
    × (l.out ≡ put l.initial.out l.at (rows l.b (λ e. patch_at l.p (mixed (entry l.t) l.f l.rgb) l.r (e * l.p))))

abbrev pub decreases-loop-b : goal.decreases-loop-b
decreases-loop-b l = l.gw - l.b
