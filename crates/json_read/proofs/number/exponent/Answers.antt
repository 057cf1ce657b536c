-- `number::exponent` meets its contract. Assumes nothing.
use mathlib.Core.Path.{refl, ap}
use mathlib.Core.List.{[], ◌∷◌}
use Rattle.json_grammar.specs.inner.Machine as M
use Rattle.json_grammar.proofs.Steps.{ends-past, passes, takes}
use Rattle.json_grammar.proofs.Lexing.{exp-skip}
use Rattle.json_read.proofs.number.exponent.Goals as goal

pub returns-then-s-at : goal.returns-then-s-at
unfolding M.ready M.nullable
returns-then-s-at c = ends-past refl c.if-s-at.true

pub returns-then-b-eq101 : goal.returns-then-b-eq101
unfolding M.settle M.alts M.pick M.within
returns-then-b-eq101 c = takes (M.signed ∷ []) c.if-s-at.false (ap (M.settle (M.exp ∷ [])) c.if-b-eq101.true) c.signed.ensures

pub returns-then-b-eq69 : goal.returns-then-b-eq69
unfolding M.settle M.alts M.pick M.within
returns-then-b-eq69 c = takes (M.signed ∷ []) c.if-s-at.false (ap (M.settle (M.exp ∷ [])) c.if-b-eq69.true) c.signed-then-b-eq69.ensures

pub returns : goal.returns
unfolding M.settle
returns c = passes c.if-s-at.false (exp-skip [] _ c.if-b-eq101.false c.if-b-eq69.false)
