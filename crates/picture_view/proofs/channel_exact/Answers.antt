-- `picture_view::channel_exact` meets its contract. The invariant: the answer is that of the bytes passed. Assumes nothing.
use mathlib.Core.Path.{refl, ap}
use Prim.Native.Nat.{ℕ}
use native.Mathlib.Omega.{arith}
use lib.Dec.{eqb}
use Rattle.buffers.specs.Rows.{all}
use Rattle.buffers.proofs.Lists.{all_more, all_end}
use Rattle.picture_samples.specs.Samples.{entry}
use Rattle.picture_view.specs.inner.Known.{pattern_by}
use Rattle.picture_view.proofs.channel_exact.Goals as goal

pub loop-b-init : goal.loop-b-init
unfolding all
loop-b-init c = (omega arith, refl)

pub loop-b-preserved : goal.loop-b-preserved
loop-b-preserved c =
    (omega arith, all_more c.loop-b.b (λ i. eqb (entry c.args.t.now c.args.c i) (pattern_by c.args.mean c.args.deviation i)) c.loop-b.ok _ c.loop-b.invariant.1 (ap (λ (x : ℕ). eqb (entry c.args.t.now c.args.c c.loop-b.b) x) c.pattern_of.ensures))

pub returns : goal.returns
returns c =
    all_end 256 c.loop-b.b (λ i. eqb (entry c.args.t.now c.args.c i) (pattern_by c.args.mean c.args.deviation i)) c.loop-b.ok c.loop-b.invariant.0 (omega arith) c.loop-b.invariant.1
