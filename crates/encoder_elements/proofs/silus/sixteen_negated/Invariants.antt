-- `encoder_elements::silus::sixteen_negated` meets its contract. Assumes nothing.
use mathlib.Core.Path.{◌≡◌}
use Prim.Native.Nat.{◌+◌, ◌≤◌}
use lib.ListN.{length, get_or}
use lib.Ieee.{nan, neg}
use Rattle.buffers.specs.Rows.{tab}
use Rattle.buffers.specs.Region.{put}
use Rattle.encoder_elements.proofs.silus.sixteen_negated.Given as goal

abbrev pub invariant-loop-l : goal.invariant-loop-l
invariant-loop-l l = (l.l ≤ 16) × (length l.x ≡ 16) × (l.x ≡ put l.initial.x 0 (tab l.l (λ i. neg (get_or l.s (l.y + i) nan))))
