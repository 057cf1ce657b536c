-- Where E is worked out by its series. Assumes nothing.
use Rattle.std.specs.Prelude.{Bool, not, ◌&&◌, Float}
use Rattle.std.specs.Float.Ieee.{le, ne}
use Rattle.number_exp_tanh.specs.Exp.{top, bottom}

-- x is a number, above −104 and below 89
abbrev pub between : Float → Bool
between x = not (ne x x) && (not (le top x) && not (le x bottom))
