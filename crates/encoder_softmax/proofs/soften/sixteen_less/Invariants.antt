-- `encoder_softmax::soften::sixteen_less` meets its contract. Assumes nothing.
use mathlib.Core.Path.{◌≡◌}
use Prim.Native.Nat.{◌+◌, ◌≤◌}
use lib.ListN.{length, get_or}
use lib.Ieee.{nan, binary32, sub}
use Rattle.buffers.specs.Rows.{tab}
use Rattle.buffers.specs.Region.{put}
use Rattle.encoder_softmax.proofs.soften.sixteen_less.Given as goal

abbrev pub invariant-loop-l : goal.invariant-loop-l
invariant-loop-l l = (l.l ≤ 16) × (length l.x ≡ 16) × (l.x ≡ put l.initial.x 0 (tab l.l (λ i. sub binary32 (get_or l.s (l.y + i) nan) l.m)))
