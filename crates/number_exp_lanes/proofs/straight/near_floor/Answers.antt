-- `straight::near_floor` meets its contract. Assumes nothing.
use mathlib.Core.Path.{ap, ◌∙◌}
use mathlib.Core.Logic.{inl, inr}
use lib.Ieee.{binary64, sub}
use Rattle.number_exp_lanes.proofs.straight.Floored.{near_of, floored}
use Rattle.number_exp_lanes.proofs.straight.near_floor.Goals as goal

pub returns : goal.returns
returns c =
    let y = c.args.y in
    let f = floored y c.requires.0 c.requires.1 in
    elim c.if-y-t.branch-raw [
      | inl p ↦ ap (sub binary64 (near_of y)) p.result-is ∙ f.0 p.if-y-t.true
      | inr p ↦ ap (sub binary64 (near_of y)) p.result-is ∙ f.1 p.if-y-t.false
    ]
