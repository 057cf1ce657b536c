-- `encoder_linear::linear::block` meets its contract. Assumes nothing.
use mathlib.Core.Path.{◌≡◌}
use Prim.Native.Nat.{◌*◌}
use Rattle.std.specs.Prelude.{min}
use lib.ListN.{length}
use Rattle.buffers.specs.Region.{region, put}
use Rattle.encoder_linear.specs.inner.Lanes.{begun}
use Rattle.encoder_linear.proofs.linear.block.Given as goal

abbrev pub invariant-loop-i : goal.invariant-loop-i
invariant-loop-i l =
    (length l.s ≡ length l.initial.s) × (l.s ≡ put l.initial.s l.y (begun (min (l.i * 1024) l.nin) l.r l.nin l.nout l.w (region l.x l.xa (l.r * l.nin))))
