-- `picture_view::channel_exact` meets its contract. The invariant: the answer is that of the bytes passed. Assumes nothing.
use mathlib.Core.Path.{◌≡◌}
use Prim.Native.Nat.{◌-◌, ◌≤◌}
use lib.Dec.{eqb}
use Rattle.buffers.specs.Rows.{all}
use Rattle.picture_samples.specs.Samples.{entry}
use Rattle.picture_view.specs.inner.Known.{pattern_by}
use Rattle.picture_view.proofs.channel_exact.Given as goal

abbrev pub invariant-loop-b : goal.invariant-loop-b
invariant-loop-b l = (l.b ≤ 256) × (l.ok ≡ all l.b (λ i. eqb (entry l.t l.c i) (pattern_by l.mean l.deviation i)))
