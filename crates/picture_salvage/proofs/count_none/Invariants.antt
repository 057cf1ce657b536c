-- `picture_salvage::count_none` meets its contract. Assumes nothing.
use mathlib.Core.Path.{◌≡◌}
use Prim.Native.Nat.{◌-◌, ◌≤◌}
use Rattle.buffers.specs.Rows.{count}
use Rattle.picture_salvage.specs.inner.Loops.{none_at}
use Rattle.picture_salvage.proofs.count_none.Given as goal

abbrev pub invariant-loop-k : goal.invariant-loop-k
invariant-loop-k l = (l.k ≤ l.n) × (l.bad ≡ count l.k (none_at l.found))
