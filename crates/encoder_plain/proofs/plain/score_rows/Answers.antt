-- `encoder_plain::plain::score_rows` meets its contract. Assumes nothing.
use mathlib.Core.Path.{refl, ap, ◌∙◌}
use native.Mathlib.Omega.{arith}
use Rattle.buffers.specs.Rows.{tab, rows}
use Rattle.buffers.specs.Region.{region, put}
use Rattle.encoder_plain.specs.Plain.{floats, score, scores}
use Rattle.encoder_plain.proofs.Loops.{scores-step}
use Rattle.encoder_plain.proofs.plain.score_rows.Goals as goal

pub loop-qi-init : goal.loop-qi-init
unfolding put rows
loop-qi-init c = (omega arith, refl, refl)

pub score_row-requires : goal.score_row-requires
score_row-requires c = (rw c.loop-qi.invariant.1 c.requires.0, c.requires.1, c.loop-qi-test.true)

pub loop-qi-preserved : goal.loop-qi-preserved
loop-qi-preserved c =
    (omega arith, c.score_row.auto.s ∙ c.loop-qi.invariant.1, scores-step c.args.s.now c.args.p.q c.args.p.k c.args.p.row c.args.p.t c.args.p.heads c.args.p.hd c.args.h c.args.p.scaling c.requires.0 c.loop-qi.s c.score_row.new.s c.loop-qi.qi c.loop-qi-test.true c.loop-qi.invariant.2 c.score_row.ensures)

pub shape_of-s : goal.shape_of-s
shape_of-s c = c.loop-qi.invariant.1

pub returns : goal.returns
unfolding scores
returns c =
    c.loop-qi.invariant.2 ∙ ap (λ n. put c.args.s.now c.args.p.row (rows n (λ i. tab c.args.p.t (score c.args.p.t c.args.p.heads c.args.p.hd c.args.p.scaling (region c.args.s.now c.args.p.q (floats c.args.p.t c.args.p.heads c.args.p.hd)) (region c.args.s.now c.args.p.k (floats c.args.p.t c.args.p.heads c.args.p.hd)) c.args.h i)))) (omega arith)
