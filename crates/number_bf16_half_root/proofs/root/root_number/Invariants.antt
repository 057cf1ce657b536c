-- `root::root_number` meets its contract. The invariant: x's size times 2 ^ 24 is m * 2 ^ k. The measure is k. Assumes nothing.
use Rattle.std.proofs.Common.{◌≡◌, ◌*◌, ◌^◌, ◌<◌, ◌≤◌}
use Rattle.number_floats.specs.Size.{count}
use Rattle.number_bf16_half_root.proofs.root.root_number.Given as goal

abbrev pub invariant-loop-m : goal.invariant-loop-m
invariant-loop-m l = (count (2 ^ 23) l.x * 2 ^ 24 ≡ l.m * 2 ^ l.k) × (0 < l.m) × (l.m < 2 ^ 24) × (l.k ≤ 277)

abbrev pub decreases-loop-m : goal.decreases-loop-m
decreases-loop-m l = l.k
