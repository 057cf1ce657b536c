-- `encoder_rotation::rotate::rotate_token` meets its contract. Assumes nothing.
use mathlib.Core.Path.{◌≡◌}
use Prim.Native.Nat.{◌+◌, ◌*◌, ◌≤◌}
use lib.ListN.{length}
use Rattle.buffers.specs.Region.{region, put}
use Rattle.buffers.specs.Each.{each_row}
use Rattle.encoder_rotation.specs.Rotate.{rotated_head}
use Rattle.encoder_rotation.proofs.rotate.rotate_token.Given as goal

abbrev pub invariant-loop-r : goal.invariant-loop-r
invariant-loop-r l =
    (l.r ≤ l.heads) × (l.xa ≡ l.x + l.r * (l.half + l.half)) × (length l.s ≡ length l.initial.s)
    × (l.s ≡ put l.initial.s l.x (each_row l.r (l.half + l.half) (λ _. rotated_head l.half l.cos l.sin) (region l.initial.s l.x (l.heads * (l.half + l.half)))))
