-- `encoder_kernels::norm::norm_rows` meets its contract. Assumes nothing.
use mathlib.Core.Path.{◌≡◌}
use Prim.Native.Nat.{◌+◌, ◌*◌, ◌≤◌}
use lib.ListN.{length}
use Rattle.buffers.specs.Region.{region, put}
use Rattle.buffers.specs.Each.{each_row}
use Rattle.encoder_kernels.specs.Kernels.{norm_row}
use Rattle.encoder_kernels.proofs.norm.norm_rows.Given as goal

abbrev pub invariant-loop-r : goal.invariant-loop-r
invariant-loop-r l =
    (l.r ≤ l.n) × (l.xa ≡ l.x + l.r * l.dim) × (l.ya ≡ l.y + l.r * l.dim) × (length l.s ≡ length l.initial.s)
    × (l.s ≡ put l.initial.s l.y (each_row l.r l.dim (λ _. norm_row l.dim l.w) (region l.initial.s l.x (l.n * l.dim))))
