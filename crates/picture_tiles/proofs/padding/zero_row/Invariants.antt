-- `picture_tiles::padding::zero_row` meets its contract. The invariant: the pixels passed behind the view's are byte 0's. Assumes nothing.
use mathlib.Core.Path.{◌≡◌}
use mathlib.Core.Bool.{true}
use Prim.Native.Nat.{ℕ, ◌-◌, ◌≤◌, ◌<◌}
use Rattle.picture_limits.specs.Places.{sample_place}
use Rattle.picture_samples.specs.Samples.{entry}
use Rattle.picture_tiles.specs.inner.Padding.{zero_pixel}
use Rattle.picture_tiles.proofs.padding.zero_row.Given as goal

abbrev pub invariant-loop-x : goal.invariant-loop-x
invariant-loop-x l =
    (l.x ≤ l.wide) × (l.initial.x ≤ l.x) × ((j : ℕ) → l.initial.x ≤ j → j < l.x → zero_pixel (entry l.t) l.n l.patches (sample_place l.p l.gw l.y j 0) ≡ true)
