-- `walk::note_each` meets its contract. Assumes nothing.
use mathlib.Core.Path.{◌≡◌}
use mathlib.Core.Bool.{cond}
use Prim.Native.Nat.{◌-◌, ◌≤◌}
use lib.ListN.{length, get_or, drop}
use Rattle.buffers.specs.Rows.{tab}
use Rattle.buffers.specs.Region.{put}
use Rattle.tensor_header.specs.Tensors.{tensors}
use Rattle.tensor_header.specs.inner.Named.{names, named_at}
use Rattle.tensor_header.proofs.walk.note_each.Given as goal

abbrev pub invariant-loop-i : goal.invariant-loop-i
invariant-loop-i l = (l.i ≤ length l.initial.places) × (length l.places ≡ length l.initial.places) × (l.places ≡ put l.initial.places 0 (tab l.i (λ k. cond (named_at (names (tensors l.s)) k (drop l.name l.h)) l.value (get_or l.initial.places k 0))))
