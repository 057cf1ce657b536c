-- `encoder_softmax::soften::sixteen_less` meets its contract. Assumes nothing.
use mathlib.Core.Path.{refl}
use Prim.Native.Nat.{◌+◌}
use native.Mathlib.Omega.{arith}
use lib.ListN.{get_or, length-set, length-replicate}
use lib.Ieee.{nan, binary32, sub}
use Rattle.buffers.specs.Rows.{tab}
use Rattle.buffers.specs.Region.{put}
use Rattle.buffers.proofs.Lists.{tab-step-0, tab-all}
use Rattle.encoder_softmax.proofs.soften.sixteen_less.Goals as goal

pub loop-l-init : goal.loop-l-init
unfolding put tab
loop-l-init c = (omega arith, simp length-replicate, refl)

pub loop-l-preserved : goal.loop-l-preserved
loop-l-preserved c =
    (omega arith, simp length-set c.loop-l.invariant.1, tab-step-0 _ c.loop-l.x c.loop-l.l (λ i. sub binary32 (get_or c.args.s.now (c.args.y + i) nan) c.args.m) _ c.loop-l.invariant.2 refl)

pub returns : goal.returns
returns c =
    tab-all _ c.loop-l.x 16 c.loop-l.l (λ i. sub binary32 (get_or c.args.s.now (c.args.y + i) nan) c.args.m) (simp length-replicate) c.loop-l.invariant.0 c.loop-l-test.false c.loop-l.invariant.2
