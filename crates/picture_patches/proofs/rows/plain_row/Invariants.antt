-- `picture_patches::rows::plain_row` meets its contract. Assumes nothing.
use mathlib.Core.Path.{◌≡◌}
use Prim.Native.Nat.{◌+◌, ◌*◌, ◌-◌, ◌≤◌}
use lib.ListN.{length, get_or}
use Rattle.buffers.specs.Rows.{tab}
use Rattle.buffers.specs.Region.{put}
use Rattle.picture_samples.specs.Samples.{value, entry}
use Rattle.picture_patches.proofs.rows.plain_row.Given as goal

abbrev pub invariant-loop-j : goal.invariant-loop-j
invariant-loop-j l =
    (l.j ≤ l.n) × (length l.out ≡ length l.initial.out) × (l.out ≡ put l.initial.out l.at (tab l.j (λ k. value (entry l.t) l.c (get_or l.rgb (l.from + k * 3) 0))))
