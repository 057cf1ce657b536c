-- `run::add` meets its contract. Assumes nothing.
use mathlib.Core.Path.{sym}
use native.Mathlib.Omega.{arith}
use lib.Seq.{length-take-le}
use Rattle.pool.specs.Pool as P
use Rattle.pool_replay.proofs.Runs.{added}
use Rattle.pool_replay.proofs.run.add.Goals as goal

pub slice_bounds-add-end-2 : goal.slice_bounds-add-end-2
slice_bounds-add-end-2 c = sym (length-take-le _ _ c.lent-n.ensures.1)

pub slice_bounds-add-end-3 : goal.slice_bounds-add-end-3
slice_bounds-add-end-3 c = sym (length-take-le _ _ (omega (arith, c.lent-m.ensures.1, c.fill_floats.auto.to)))

pub returns : goal.returns
returns c = record {
  answer = (added c.args.p c.args.s.now c.args.v.now c.lent-n.result c.lent-m.result c.number.result c.fill_floats.new.to c.add-answer.new.s (P.pooled c.add-answer.result c.add-answer.new.p)
      c.lent-n.ensures.0 c.lent-m.ensures.0 c.fill_floats.ensures c.add-answer.ensures.answer c.add-answer.ensures.output c.number.ensures).0;
  output = (added c.args.p c.args.s.now c.args.v.now c.lent-n.result c.lent-m.result c.number.result c.fill_floats.new.to c.add-answer.new.s (P.pooled c.add-answer.result c.add-answer.new.p)
      c.lent-n.ensures.0 c.lent-m.ensures.0 c.fill_floats.ensures c.add-answer.ensures.answer c.add-answer.ensures.output c.number.ensures).1;
}
