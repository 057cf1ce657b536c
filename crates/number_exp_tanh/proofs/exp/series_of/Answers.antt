-- `exp::series_of` meets its contract. The invariant: what is left of the series, from p at i on, is the series from 1 at 10 on. Assumes nothing.
use Rattle.std.proofs.Common.{◌-◌, sym, ◌∙◌, arith}
use Rattle.number_exp_tanh.proofs.exp.Terms.{series-step, series-end}
use Rattle.number_exp_tanh.proofs.exp.series_of.Goals as goal

pub loop-i-preserved : goal.loop-i-preserved
loop-i-preserved c =
    (rw c.from.ensures (series-step c.args.r (c.loop-i.i - 1) c.loop-i.p (omega arith) ∙ c.loop-i.invariant.0), omega arith, omega arith)

pub returns : goal.returns
returns c = sym (series-end c.args.r c.loop-i.p (c.loop-i.i - 1) (omega arith)) ∙ c.loop-i.invariant.0
