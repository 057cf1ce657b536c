-- `encoder_elements::silus::gate_wide` meets its contract. Assumes nothing.
use mathlib.Core.Path.{◌≡◌}
use Prim.Native.Nat.{◌*◌}
use lib.ListN.{length}
use Rattle.buffers.specs.Region.{region, put}
use Rattle.encoder_elements.specs.Element.{gated}
use Rattle.encoder_elements.proofs.silus.gate_wide.Given as goal

abbrev pub invariant-loop-k : goal.invariant-loop-k
invariant-loop-k l = (length l.s ≡ length l.initial.s) × (l.s ≡ put l.initial.s l.y (gated (l.k * 16) (region l.initial.s l.y l.n) (region l.initial.s l.z l.n)))
