-- `encoder_softmax::softmax::scale_floats` meets its contract. Assumes nothing.
use mathlib.Core.Path.{◌≡◌}
use Prim.Native.Nat.{◌≤◌}
use lib.ListN.{length}
use lib.Ieee.{nan, binary32, mul}
use Rattle.buffers.specs.Region.{region, put}
use Rattle.buffers.specs.Each.{both}
use Rattle.encoder_softmax.proofs.softmax.scale_floats.Given as goal

abbrev pub invariant-loop-i : goal.invariant-loop-i
invariant-loop-i l = (l.i ≤ l.n) × (length l.s ≡ length l.initial.s) × (l.s ≡ put l.initial.s l.y (both nan l.i (λ a b. mul binary32 a l.m) (region l.initial.s l.y l.n) (region l.initial.s l.y l.n)))
