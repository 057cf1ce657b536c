-- `number::fraction` meets its contract. Assumes nothing.
use mathlib.Core.Path.{refl, ap}
use mathlib.Core.List.{[], ◌∷◌}
use Rattle.json_grammar.specs.inner.Machine as M
use Rattle.json_grammar.proofs.Steps.{ends-past, passes, takes}
use Rattle.json_grammar.proofs.Lexing.{frac-skip}
use Rattle.json_read.proofs.number.fraction.Goals as goal

pub returns-then-s-at : goal.returns-then-s-at
unfolding M.ready M.nullable
returns-then-s-at c = ends-past refl c.if-s-at.true

pub returns-then-s-at-ne46 : goal.returns-then-s-at-ne46
unfolding M.settle
returns-then-s-at-ne46 c = passes c.if-s-at.false (frac-skip [] _ c.if-s-at-ne46.true)

pub returns : goal.returns
unfolding M.settle M.alts M.pick M.within
returns c = takes (M.range M.digit ∷ (M.digits ∷ [])) c.if-s-at.false (ap (M.settle (M.frac ∷ [])) c.if-s-at-ne46.false) c.digits_from_one.ensures
