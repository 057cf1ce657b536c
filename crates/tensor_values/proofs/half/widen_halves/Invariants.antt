-- `tensor_values::half::widen_halves` meets its contract. Assumes nothing.
use mathlib.Core.Path.{◌≡◌}
use Prim.Native.Nat.{◌-◌, ◌/◌, ◌^◌, ◌≤◌}
use lib.ListN.{length, get_or}
use Rattle.buffers.specs.Rows.{tab}
use Rattle.buffers.specs.Region.{put}
use Rattle.number_bf16_half_root.specs.Half.{half}
use Rattle.tensor_values.proofs.half.widen_halves.Given as goal

abbrev pub invariant-loop-i : goal.invariant-loop-i
invariant-loop-i l = (l.i ≤ length l.initial.out) × (length l.out ≡ length l.initial.out) × (l.out ≡ put l.initial.out 0 (tab l.i (λ k. half (get_or l.initial.out k 0 / 2 ^ 16))))
