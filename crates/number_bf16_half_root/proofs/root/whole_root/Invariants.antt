-- `root::whole_root` meets its contract. The invariant: v lies between the squares of lo and hi. The measure is what is left between the two. Assumes nothing.
use Rattle.std.proofs.Common.{◌-◌, ◌*◌, ◌^◌, ◌<◌, ◌≤◌}
use Rattle.number_bf16_half_root.proofs.root.whole_root.Given as goal

abbrev pub invariant-loop-lo : goal.invariant-loop-lo
invariant-loop-lo l = (2 ^ 23 ≤ l.lo) × (l.lo < l.hi) × (l.hi ≤ 2 ^ 24) × (l.lo * l.lo ≤ l.v) × (l.v < l.hi * l.hi)

abbrev pub decreases-loop-lo : goal.decreases-loop-lo
decreases-loop-lo l = l.hi - l.lo
