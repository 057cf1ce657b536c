-- `picture_patches::strip::mixed_patches` meets its contract. Assumes nothing.
use mathlib.Core.Path.{◌≡◌}
use Prim.Native.Nat.{◌+◌, ◌*◌, ◌-◌, ◌≤◌}
use lib.ListN.{length}
use Rattle.buffers.specs.Rows.{rows}
use Rattle.buffers.specs.Region.{put}
use Rattle.picture_samples.specs.Samples.{entry}
use Rattle.picture_patches.specs.Patches.{patch_line}
use Rattle.picture_patches.specs.inner.Frame.{mixed}
use Rattle.picture_patches.proofs.strip.mixed_patches.Given as goal

abbrev pub invariant-loop-a : goal.invariant-loop-a
invariant-loop-a l =
    (length l.out ≡ length l.initial.out)
    × (length l.left ≡ length l.initial.left)
    × (length l.right ≡ length l.initial.right)
    × (length l.band ≡ length l.initial.band)
    × (l.out ≡ put l.initial.out 0 (rows l.a (λ k. patch_line l.p l.f.gw (mixed (entry l.t) l.f l.rgb) (k * l.p))))
