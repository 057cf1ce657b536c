-- `number_exp_lanes::lanes::end_of` meets its contract: between the ends k is whole and bounded, and E is F narrowed. Assumes nothing.
use mathlib.Core.Path.{◌≡◌, sym, ap, ap₂, ◌∙◌, subst}
use mathlib.Core.Bool.{true}
use lib.Ieee.{binary64, mul}
use Rattle.number_exp_lanes.specs.inner.Near.{WholeUpTo}
use Rattle.number_floats.specs.Narrow.{narrow}
use Rattle.number_exp_tanh.specs.Exp.{two_to}
use Rattle.number_exp_tanh.specs.inner.Between.{between}
use Rattle.number_exp_tanh.proofs.exp.Range.{between-says}
use Rattle.number_exp_lanes.proofs.straight.Insides.{k-whole}
use Rattle.number_exp_lanes.proofs.lanes.end_of.Goals as goal

pub power_of-requires : goal.power_of-requires
power_of-requires c =
    let passed : between c.args.x ≡ true = sym c.is_between.ensures ∙ c.if-is_between.true in
    subst (WholeUpTo 1000) (sym c.requires.0) (k-whole c.args.x (between-says c.args.x (passed)).0)

pub returns-then-is_between : goal.returns-then-is_between
returns-then-is_between c =
    let passed : between c.args.x ≡ true = sym c.is_between.ensures ∙ c.if-is_between.true in
    c.narrow_f64.ensures
    ∙ ap narrow (ap₂ (mul binary64) c.requires.1 (c.power_of.ensures ∙ ap two_to c.requires.0))
    ∙ sym (between-says c.args.x (passed)).1

pub returns : goal.returns
returns c = c.exp_f32.ensures
