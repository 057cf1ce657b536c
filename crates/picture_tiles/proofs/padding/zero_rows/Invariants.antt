-- `picture_tiles::padding::zero_rows` meets its contract. The invariant: the rows passed have the padding asked for. Assumes nothing.
use mathlib.Core.Path.{◌≡◌}
use mathlib.Core.Bool.{true}
use Prim.Native.Nat.{◌-◌, ◌≤◌}
use Rattle.buffers.specs.Rows.{all}
use Rattle.picture_samples.specs.Samples.{entry}
use Rattle.picture_tiles.specs.inner.Padding.{zero_row}
use Rattle.picture_tiles.proofs.padding.zero_rows.Given as goal

abbrev pub invariant-loop-y : goal.invariant-loop-y
invariant-loop-y l = (l.y ≤ l.tall) × (all l.y (λ i. zero_row (entry l.t) l.p l.gw l.patches l.v i) ≡ true)
