-- `picture_samples::formula::has_bits` meets its contract: a float is that of its bits. Assumes nothing.
use mathlib.Core.Path.{sym, ap, ◌∙◌, subst}
use borrow.Author.Tests.{eqb-true}
use lib.Dec.{T}
use lib.Ieee.{binary32, of_bits}
use lib.Ieee.Bits.{of_bits-to_bits}
use Rattle.picture_samples.proofs.formula.has_bits.Goals as goal

pub returns : goal.returns
returns c = λ e.
    sym (of_bits-to_bits binary32 c.args.x (subst T (sym c.well_formed.0.1) tt)) ∙ ap (of_bits binary32) (sym c.bits_of_f32.ensures ∙ eqb-true _ _ e)
