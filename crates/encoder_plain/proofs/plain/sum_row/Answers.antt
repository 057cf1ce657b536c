-- `encoder_plain::plain::sum_row` meets its contract. Assumes nothing.
use mathlib.Core.Path.{refl, ap, ◌∙◌}
use Prim.Native.Nat.{◌+◌, ◌*◌}
use native.Mathlib.Omega.{arith}
use lib.ListN.{length-set, get_or}
use lib.Ieee.{nan, binary32, mul}
use Rattle.encoder_linear.specs.Linear.{sum_of}
use Rattle.buffers.specs.Rows.{tab}
use Rattle.buffers.specs.Region.{region, put}
use Rattle.encoder_plain.specs.Plain.{floats, off, sums}
use Rattle.encoder_plain.proofs.Loops.{sum_step, bounds}
use Rattle.encoder_plain.proofs.plain.sum_row.Goals as goal

pub loop-d-init : goal.loop-d-init
unfolding put tab
loop-d-init c = (omega arith, refl, refl)

pub weighed-requires : goal.weighed-requires
weighed-requires c =
    let z = bounds c.args.p.t c.args.p.heads c.args.p.hd c.args.h c.args.qi c.requires.1 c.requires.2 in
    let e = c.loop-d.invariant.1 in
    (omega (arith, z, c.requires.0, e), omega (arith, z, c.requires.0, e), omega (arith, z, c.requires.0, c.loop-d-test.true))

pub loop-d-preserved : goal.loop-d-preserved
loop-d-preserved c = (
  omega arith,
  simp length-set c.loop-d.invariant.1,
  sum_step c.args.s.now c.args.p.v c.args.p.row c.args.p.out c.args.p.t c.args.p.heads c.args.p.hd c.args.h c.args.qi c.requires.0 c.requires.1 c.requires.2 c.loop-d.s c.loop-d.d _ c.loop-d-test.true c.loop-d.invariant.2 c.weighed.ensures,
)

pub shape_of-s : goal.shape_of-s
shape_of-s c = c.loop-d.invariant.1

pub returns : goal.returns
unfolding sums
returns c =
    c.loop-d.invariant.2 ∙ ap (λ n. put c.args.s.now (c.args.p.out + off c.args.p.t c.args.p.heads c.args.p.hd c.args.qi c.args.h)
    (tab n (λ j. sum_of c.args.p.t (λ vi. mul binary32 (get_or (region c.args.s.now c.args.p.row (c.args.p.t * c.args.p.t)) (c.args.qi * c.args.p.t + vi) nan) (get_or (region c.args.s.now c.args.p.v (floats c.args.p.t c.args.p.heads c.args.p.hd)) (off c.args.p.t c.args.p.heads c.args.p.hd vi c.args.h + j) nan))))) (omega arith)
