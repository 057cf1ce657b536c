-- `picture_spot::is_beyond` meets its contract. Assumes nothing.
use mathlib.Core.Path.{sym, ◌∙◌}
use native.Mathlib.Numerals.{add-one}
use Rattle.picture_spot.specs.inner.Spot.{beyond}
use Rattle.picture_spot.proofs.is_beyond.Goals as goal

pub returns-then-up : goal.returns-then-up
unfolding beyond
returns-then-up c = rw (sym c.requires.2 ∙ c.if-up.true, ← add-one c.args.b, c.value_of-x.ensures)

pub returns : goal.returns
unfolding beyond
returns c = rw (sym c.requires.2 ∙ c.if-up.false, ← add-one c.args.b, c.value_of-x.ensures)
