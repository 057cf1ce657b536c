-- `picture_patches::nest::patch_at` meets its contract. Assumes nothing.
use mathlib.Core.Path.{◌≡◌}
use Prim.Native.Nat.{◌+◌, ◌*◌}
use lib.ListN.{length}
use Rattle.buffers.specs.Rows.{rows}
use Rattle.buffers.specs.Region.{put}
use Rattle.picture_samples.specs.Samples.{entry}
use Rattle.picture_patches.specs.Patches.{patch_channel}
use Rattle.picture_patches.specs.inner.Frame.{viewed}
use Rattle.picture_patches.proofs.nest.patch_at.Given as goal

abbrev pub invariant-loop-c : goal.invariant-loop-c
invariant-loop-c l =
    (length l.out ≡ length l.initial.out) × (l.out ≡ put l.initial.out l.at (rows l.c (λ k. patch_channel l.f.p (viewed (entry l.t) l.f l.v l.rgb) l.r l.x k)))
