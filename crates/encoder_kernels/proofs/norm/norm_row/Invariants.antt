-- `encoder_kernels::norm::norm_row` meets its contract. Assumes nothing.
use mathlib.Core.Path.{◌≡◌}
use Prim.Native.Nat.{◌≤◌}
use lib.ListN.{length, get_or}
use lib.Ieee.{nan, binary32, mul}
use Rattle.buffers.specs.Region.{region, put}
use Rattle.buffers.specs.Rows.{tab}
use Rattle.encoder_kernels.proofs.norm.norm_row.Given as goal

abbrev pub invariant-loop-j : goal.invariant-loop-j
invariant-loop-j l = (l.j ≤ l.dim) × (length l.s ≡ length l.initial.s) × (l.s ≡ put l.initial.s l.y (tab l.j (λ i. mul binary32 (mul binary32 (get_or (region l.initial.s l.x l.dim) i nan) l.inv) (get_or l.w i nan))))
