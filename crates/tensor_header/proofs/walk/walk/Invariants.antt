-- `walk::walk` meets its contract. Assumes nothing.
use mathlib.Core.Path.{◌≡◌}
use Prim.Native.Nat.{◌-◌}
use lib.ListN.{length}
use Rattle.json_members.proofs.Finding.{Going}
use Rattle.tensor_header.proofs.Walking.{All}
use Rattle.tensor_header.proofs.walk.walk.Given as goal

abbrev pub invariant-loop-member : goal.invariant-loop-member
invariant-loop-member l = (length l.places ≡ length l.initial.places) × All l.s (λ w n. Going l.h l.at 31 w l.i n) l.places

abbrev pub decreases-loop-member : goal.decreases-loop-member
decreases-loop-member l = length l.h - l.i
