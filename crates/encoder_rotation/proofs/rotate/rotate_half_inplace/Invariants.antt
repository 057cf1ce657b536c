-- `encoder_rotation::rotate::rotate_half_inplace` meets its contract. Assumes nothing.
use mathlib.Core.Path.{◌≡◌}
use Prim.Native.Nat.{◌≤◌}
use lib.ListN.{length}
use Rattle.encoder_rotation.proofs.Rotated.{rotating}
use Rattle.encoder_rotation.proofs.rotate.rotate_half_inplace.Given as goal

abbrev pub invariant-loop-j : goal.invariant-loop-j
invariant-loop-j l = (l.j ≤ l.half) × (length l.s ≡ length l.initial.s) × (l.s ≡ rotating l.initial.s l.cos l.sin l.x l.half l.j)
