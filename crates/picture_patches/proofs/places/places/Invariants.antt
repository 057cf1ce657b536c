-- `picture_patches::places::places` meets its contract. Assumes nothing.
use mathlib.Core.Path.{◌≡◌}
use lib.ListN.{length}
use Rattle.buffers.specs.Rows.{tab}
use Rattle.buffers.specs.Region.{put}
use Rattle.picture_resize.specs.Resize.{near}
use Rattle.picture_patches.specs.inner.Places.{place_of}
use Rattle.picture_patches.proofs.places.places.Given as goal

abbrev pub invariant-loop-j : goal.invariant-loop-j
invariant-loop-j l = (length l.out ≡ length l.initial.out) × (l.out ≡ put l.initial.out 0 (tab l.j (λ k. place_of (near l.from l.to k))))
