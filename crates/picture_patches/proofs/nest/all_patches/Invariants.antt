-- `picture_patches::nest::all_patches` meets its contract. Assumes nothing.
use mathlib.Core.Path.{◌≡◌}
use Prim.Native.Nat.{◌+◌, ◌*◌}
use lib.ListN.{length}
use Rattle.buffers.specs.Rows.{rows}
use Rattle.buffers.specs.Region.{put}
use Rattle.picture_samples.specs.Samples.{entry}
use Rattle.picture_patches.specs.Patches.{patch_line}
use Rattle.picture_patches.specs.inner.Frame.{viewed}
use Rattle.picture_patches.proofs.nest.all_patches.Given as goal

abbrev pub invariant-loop-a : goal.invariant-loop-a
invariant-loop-a l =
    (length l.out ≡ length l.initial.out) × (l.out ≡ put l.initial.out 0 (rows l.a (λ k. patch_line l.p l.f.gw (viewed (entry l.t) l.f l.v l.rgb) (k * l.p))))
