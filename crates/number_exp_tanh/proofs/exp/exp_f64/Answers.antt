-- `number_exp_tanh::exp::exp_f64` meets its contract: k is at most 152 in size (`exp/Range.antt`), so 2 ^ k is an f64. Assumes nothing.
use Rattle.std.proofs.Common.{sym, ap, ◌∙◌, subst, ap₂}
use lib.Ieee.{Float, binary64, mul}
use Rattle.number_floats.specs.inner.Bounds.{AtMost}
use Rattle.number_exp_tanh.specs.Exp.{series, two_to, r_with}
use Rattle.number_floats.specs.Constants.{one64}
use Rattle.number_exp_tanh.proofs.exp.Range.{k-fits}
use Rattle.number_exp_tanh.proofs.exp.exp_f64.Goals as goal

pub two_to-requires : goal.two_to-requires
two_to-requires c =
    subst (AtMost 1000) (sym c.k_of-k.ensures) (k-fits c.args.x c.requires)

pub returns : goal.returns
returns c =
    let x = c.args.x in
    let k-is = c.k_of-k.ensures in
    ap₂ (mul binary64)
    (c.series_of-p.ensures ∙ ap (λ (r : Float). series r 10 one64) (c.r_of.ensures ∙ ap (r_with x) k-is))
    (c.two_to.ensures ∙ ap two_to k-is)
