-- `picture_samples::formula::worked_out` meets its contract. Assumes nothing.
use mathlib.Core.Path.{◌≡◌}
use Prim.Native.Nat.{◌-◌, ◌/◌, ◌%◌, ◌≤◌}
use lib.ListN.{length}
use Rattle.buffers.specs.Rows.{tab}
use Rattle.buffers.specs.Region.{put}
use Rattle.picture_samples.specs.Samples.{sample_bits}
use Rattle.picture_samples.proofs.formula.worked_out.Given as goal

abbrev pub invariant-loop-i : goal.invariant-loop-i
invariant-loop-i l = (l.i ≤ 768) × (length l.t ≡ 768) × (l.t ≡ put l.initial.t 0 (tab l.i (λ k. sample_bits l.mean l.deviation (k / 256) (k % 256))))
