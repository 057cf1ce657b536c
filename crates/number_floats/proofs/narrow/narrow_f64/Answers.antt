-- `number_floats::narrow::narrow_f64` meets its contract: to the pattern and back is the float itself. Assumes nothing.
use Rattle.std.proofs.Common.{T, sym, ap, ◌∙◌, subst}
use lib.Ieee.{binary32, of_bits}
use Rattle.number_floats.specs.Narrow as S
use Rattle.number_floats.proofs.narrow.Meets.{there_and_back}
use Rattle.number_floats.proofs.narrow.narrow_f64.Goals as goal

pub returns : goal.returns
returns c =
    c.f32_of_bits.ensures
    ∙ ap (of_bits binary32) (c.narrow.ensures ∙ ap S.narrow_bits c.bits_of_f64.ensures)
    ∙ there_and_back c.args.x (subst T (sym c.well_formed.0.1) tt)
