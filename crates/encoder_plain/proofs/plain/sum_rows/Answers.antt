-- `encoder_plain::plain::sum_rows` meets its contract. Assumes nothing.
use mathlib.Core.Path.{refl, ap, ◌∙◌}
use Prim.Native.Nat.{◌+◌, ◌*◌}
use native.Mathlib.Omega.{arith}
use Rattle.buffers.specs.Region.{region, put_rows}
use Rattle.encoder_plain.specs.Plain.{floats, off, sums}
use Rattle.encoder_plain.proofs.Loops.{sums-step}
use Rattle.encoder_plain.proofs.plain.sum_rows.Goals as goal

pub loop-qi-init : goal.loop-qi-init
unfolding put_rows
loop-qi-init c = (omega arith, refl, refl)

pub sum_row-requires : goal.sum_row-requires
sum_row-requires c = (rw c.loop-qi.invariant.1 c.requires.0, c.requires.1, c.loop-qi-test.true)

pub loop-qi-preserved : goal.loop-qi-preserved
loop-qi-preserved c =
    (omega arith, c.sum_row.auto.s ∙ c.loop-qi.invariant.1, sums-step c.args.s.now c.args.p.v c.args.p.row c.args.p.out c.args.p.t c.args.p.heads c.args.p.hd c.args.h c.requires.0 c.requires.1 c.loop-qi.s c.sum_row.new.s c.loop-qi.qi c.loop-qi-test.true c.loop-qi.invariant.2 c.sum_row.ensures)

pub shape_of-s : goal.shape_of-s
shape_of-s c = c.loop-qi.invariant.1

pub returns : goal.returns
returns c = c.loop-qi.invariant.2 ∙ ap (λ n. put_rows c.args.s.now n (λ i. c.args.p.out + off c.args.p.t c.args.p.heads c.args.p.hd i c.args.h) (sums c.args.p.t c.args.p.heads c.args.p.hd (region c.args.s.now c.args.p.v (floats c.args.p.t c.args.p.heads c.args.p.hd)) (region c.args.s.now c.args.p.row (c.args.p.t * c.args.p.t)) c.args.h)) (omega arith)
