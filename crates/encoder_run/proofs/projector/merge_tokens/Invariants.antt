-- `encoder_run::projector::merge_tokens` meets its contract. Assumes nothing.
use mathlib.Core.Path.{◌≡◌}
use Prim.Native.Nat.{◌*◌, ◌-◌, ◌≤◌}
use lib.ListN.{length}
use Rattle.buffers.specs.Region.{region, put}
use Rattle.encoder_run.specs.inner.Source.{merged_first}
use Rattle.encoder_run.proofs.projector.merge_tokens.Given as goal

abbrev pub invariant-loop-p : goal.invariant-loop-p
invariant-loop-p l = (l.p ≤ l.total) × (length l.s ≡ length l.initial.s) × (l.s ≡ put l.initial.s l.y (merged_first l.p l.merge l.gw l.dim (region l.initial.s l.x (l.gh * l.gw * l.dim))))
