-- `straight::is_inside` meets its contract. Assumes nothing.
use mathlib.Core.Path.{refl}
use Rattle.number_exp_lanes.proofs.straight.is_inside.Goals as goal

pub returns : goal.returns
returns c = refl
