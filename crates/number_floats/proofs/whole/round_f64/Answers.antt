-- `number_floats::whole::round_f64` meets its contract: the library's round is the definition's. Assumes nothing.
use mathlib.Core.Path.{◌≡◌, refl, ◌∙◌}
use mathlib.Core.Bool.{true, false}
use lib.Ieee.{Float, nan, inf, fin, binary64}
use Rattle.std.specs.Float as Std
use Rattle.std.specs.Float.{round_with}
use Rattle.number_floats.specs.Whole.{away}
use Rattle.number_floats.proofs.whole.round_f64.Goals as goal

same : (y : Float) → Std.float_round binary64 y ≡ away y
unfolding round_with
same nan = refl
same (inf s) = refl
same (fin false m e) = refl
same (fin true m e) = refl

pub returns : goal.returns
returns c = c.round.ensures ∙ same c.args.y
