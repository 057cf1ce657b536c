-- `encoder_steps::gelu_finite` meets its contract. Assumes nothing.
use mathlib.Core.Bool.{◌&&◌}
use mathlib.Core.Path.{ap}
use Rattle.encoder_steps.proofs.gelu_finite.Goals as goal

pub shape_of-s : goal.shape_of-s
shape_of-s c = c.gelu_inplace.auto.s

pub returns : goal.returns
returns c =
    record { all = c.gelu_inplace.ensures; finite-is = ap (λ b. c.args.ok && b) c.finite_at.ensures }
