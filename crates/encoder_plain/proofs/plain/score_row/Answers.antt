-- `encoder_plain::plain::score_row` meets its contract. Assumes nothing.
use mathlib.Core.Path.{refl, ap, ◌∙◌}
use Prim.Native.Nat.{◌+◌, ◌*◌}
use native.Mathlib.Omega.{arith}
use lib.ListN.{length-set}
use lib.Ieee.{binary32, mul}
use Rattle.buffers.specs.Rows.{tab}
use Rattle.buffers.specs.Region.{region, put}
use Rattle.encoder_plain.specs.Plain.{floats, score}
use Rattle.encoder_plain.proofs.Loops.{score-step, bounds}
use Rattle.encoder_plain.proofs.plain.score_row.Goals as goal

pub loop-ki-init : goal.loop-ki-init
unfolding put tab
loop-ki-init c = (omega arith, refl, refl)

pub dot-requires : goal.dot-requires
dot-requires c =
    (omega (arith, bounds c.args.p.t c.args.p.heads c.args.p.hd c.args.h c.args.qi c.requires.1 c.requires.2, c.requires.0, c.loop-ki.invariant.1), omega (arith, bounds c.args.p.t c.args.p.heads c.args.p.hd c.args.h c.loop-ki.ki c.requires.1 c.loop-ki-test.true, c.requires.0, c.loop-ki.invariant.1))

pub loop-ki-preserved : goal.loop-ki-preserved
loop-ki-preserved c = (
  omega arith,
  simp length-set c.loop-ki.invariant.1,
  score-step c.args.s.now c.args.p.q c.args.p.k c.args.p.row c.args.p.t c.args.p.heads c.args.p.hd c.args.h c.args.qi c.args.p.scaling c.requires.0 c.requires.1 c.requires.2 c.loop-ki.s c.loop-ki.ki _ c.loop-ki-test.true c.loop-ki.invariant.2 (ap (λ z. mul binary32 z c.args.p.scaling) c.dot.ensures),
)

pub shape_of-s : goal.shape_of-s
shape_of-s c = c.loop-ki.invariant.1

pub returns : goal.returns
returns c =
    c.loop-ki.invariant.2 ∙ ap (λ n. put c.args.s.now (c.args.p.row + c.args.qi * c.args.p.t) (tab n (score c.args.p.t c.args.p.heads c.args.p.hd c.args.p.scaling (region c.args.s.now c.args.p.q (floats c.args.p.t c.args.p.heads c.args.p.hd)) (region c.args.s.now c.args.p.k (floats c.args.p.t c.args.p.heads c.args.p.hd)) c.args.h c.args.qi))) (omega arith)
