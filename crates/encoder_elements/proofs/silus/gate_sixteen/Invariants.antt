-- `encoder_elements::silus::gate_sixteen` meets its contract. Assumes nothing.
use mathlib.Core.Path.{◌≡◌}
use Prim.Native.Nat.{◌≤◌}
use lib.ListN.{length, get_or}
use lib.Ieee.{nan, binary32, add, mul, div}
use Rattle.buffers.specs.Rows.{tab}
use Rattle.buffers.specs.Region.{region, put}
use Rattle.number_floats.specs.Constants.{one32}
use Rattle.encoder_elements.proofs.silus.gate_sixteen.Given as goal

abbrev pub invariant-loop-l : goal.invariant-loop-l
invariant-loop-l l = (l.l ≤ 16) × (length l.s ≡ length l.initial.s) × (l.s ≡ put l.initial.s l.y (tab l.l (λ j. mul binary32 (div binary32 (get_or (region l.initial.s l.y 16) j nan) (add binary32 one32 (get_or l.e j nan))) (get_or (region l.initial.s l.z 16) j nan))))
