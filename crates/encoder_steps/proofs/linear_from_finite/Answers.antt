-- `encoder_steps::linear_from_finite` meets its contract. Assumes nothing.
use mathlib.Core.Bool.{◌&&◌}
use mathlib.Core.Path.{ap}
use Rattle.encoder_steps.proofs.linear_from_finite.Goals as goal

pub shape_of-s : goal.shape_of-s
shape_of-s c = c.linear_from.auto.s

pub returns : goal.returns
returns c =
    record { all = c.linear_from.ensures; finite-is = ap (λ b. c.args.ok && b) c.finite_rows.ensures }
