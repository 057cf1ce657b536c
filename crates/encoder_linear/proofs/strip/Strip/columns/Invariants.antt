-- `encoder_linear::strip::Strip::columns` meets its contract: columns that were written are not read again. Assumes nothing.
use mathlib.Core.Path.{◌≡◌}
use Prim.Native.Nat.{◌-◌, ◌≤◌}
use lib.ListN.{length}
use Rattle.encoder_linear.specs.inner.Lanes.{gone_sum, filled}
use Rattle.encoder_linear.proofs.strip.Strip.columns.Given as goal

abbrev pub invariant-loop-c : goal.invariant-loop-c
invariant-loop-c l = (l.c ≤ l.self.nout) × (length l.s ≡ length l.initial.s) × (l.s ≡ filled l.initial.s l.self.y l.self.nout l.self.r l.c (gone_sum l.initial.s l.w l.xt l.self.y l.self.nin l.self.nout l.self.k l.self.n))

abbrev pub decreases-loop-c : goal.decreases-loop-c
decreases-loop-c l = l.self.nout - l.c
