-- `encoder_rotation::places::Places::rotate_tokens_axes` meets its contract. Assumes nothing.
use mathlib.Core.Path.{◌≡◌}
use Prim.Native.Nat.{◌+◌, ◌*◌, ◌≤◌}
use lib.ListN.{length}
use Rattle.buffers.specs.Region.{region, put}
use Rattle.buffers.specs.Each.{each_row}
use Rattle.encoder_rotation.specs.Rotate.{rotated_at}
use Rattle.encoder_rotation.specs.Axes.{expand}
use Rattle.encoder_rotation.proofs.places.Places.rotate_tokens_axes.Given as goal

abbrev pub invariant-loop-i : goal.invariant-loop-i
invariant-loop-i l =
    (l.i ≤ l.self.tokens) × (l.xa ≡ l.self.x + l.i * (l.self.heads * (l.q + l.q + (l.q + l.q)))) × (length l.s ≡ length l.initial.s)
    × (l.s ≡ put l.initial.s l.self.x (each_row l.i (l.self.heads * (l.q + l.q + (l.q + l.q))) (rotated_at l.self.heads (l.q + l.q) l.self.gw l.self.side (expand l.self.side l.q l.row_cos l.column_cos) (expand l.self.side l.q l.row_sin l.column_sin)) (region l.initial.s l.self.x (l.self.tokens * (l.self.heads * (l.q + l.q + (l.q + l.q)))))))
