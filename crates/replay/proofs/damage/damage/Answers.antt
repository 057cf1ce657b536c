-- `damage::damage` meets its contract. Assumes nothing.
use Rattle.std.proofs.Common.{le-ltb, lt-ltb}
use Rattle.replay.specs.Damage.{damaged}
use Rattle.replay.proofs.damage.damage.Goals as goal

pub returns-then-place-cells : goal.returns-then-place-cells
unfolding damaged
returns-then-place-cells c =
    simp (lt-ltb _ _ c.if-place-cells.true) (rw (c.f32_of_bits.ensures, c.damaged_bits.ensures, c.bits_of_f32-bits.ensures))

pub returns-else-place-cells : goal.returns-else-place-cells
unfolding damaged
returns-else-place-cells c = simp (le-ltb _ _ c.if-place-cells.false)
