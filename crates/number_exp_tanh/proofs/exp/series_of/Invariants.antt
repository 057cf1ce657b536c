-- `exp::series_of` meets its contract. The invariant: what is left of the series, from p at i on, is the series from 1 at 10 on. Assumes nothing.
use Rattle.std.proofs.Common.{◌≡◌, ◌-◌, ◌≤◌}
use Rattle.number_exp_tanh.specs.Exp.{series}
use Rattle.number_floats.specs.Constants.{one64}
use Rattle.number_exp_tanh.proofs.exp.series_of.Given as goal

abbrev pub invariant-loop-i : goal.invariant-loop-i
invariant-loop-i l = (series l.r (l.i - 1) l.p ≡ series l.r 10 one64) × (1 ≤ l.i) × (l.i ≤ 11)
