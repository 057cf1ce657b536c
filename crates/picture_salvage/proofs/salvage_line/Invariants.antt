-- `picture_salvage::salvage_line` meets its contract. The invariant: row i of the bits passed is written. Assumes nothing.
use mathlib.Core.Path.{◌≡◌}
use Prim.Native.Nat.{◌+◌, ◌*◌, ◌-◌, ◌≤◌}
use lib.ListN.{length}
use Rattle.buffers.specs.Rows.{rows}
use Rattle.buffers.specs.Region.{put}
use Rattle.picture_samples.specs.Samples.{entry}
use Rattle.picture_salvage.specs.inner.Loops.{saved_run}
use Rattle.picture_limits.specs.Places.{patch_floats}
use Rattle.picture_salvage.proofs.salvage_line.Given as goal

abbrev pub invariant-loop-b : goal.invariant-loop-b
invariant-loop-b l =
    (l.b ≤ l.gw) × (l.o ≡ l.at + l.b * (l.p * 3)) × (l.k ≡ l.from + l.b * patch_floats l.p) × (length l.out ≡ length l.initial.out)
    × (l.out ≡ put l.initial.out l.at (rows l.b (λ j. saved_run (entry l.t) l.p l.bits (l.from + j * patch_floats l.p + l.i * l.p))))
