-- `entry::get_in` meets its contract. Assumes nothing.
use Prim.Native.Nat.{◌-◌}
use lib.ListN.{length}
use Rattle.json_members.proofs.Finding.{Going}
use Rattle.weights.proofs.entry.get_in.Given as goal

abbrev pub invariant-loop-member : goal.invariant-loop-member
invariant-loop-member l = Going l.h l.at l.d l.w l.i l.found

abbrev pub decreases-loop-member : goal.decreases-loop-member
decreases-loop-member l = length l.h - l.i
