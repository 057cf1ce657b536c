-- `number::signed` meets its contract. Assumes nothing.
use mathlib.Core.Path.{refl, ap}
use mathlib.Core.List.{[], ◌∷◌}
use Rattle.json_grammar.specs.inner.Machine as M
use Rattle.json_grammar.proofs.Steps.{ends, takes, alike, go-alike}
use Rattle.json_grammar.proofs.Lexing.{signed-digit}
use Rattle.json_read.proofs.number.signed.Goals as goal

pub returns-then-s-at : goal.returns-then-s-at
unfolding M.ready M.nullable
returns-then-s-at c = ends refl c.if-s-at.true

pub returns-then-b-eq45 : goal.returns-then-b-eq45
unfolding M.settle M.alts M.pick M.within
returns-then-b-eq45 c = takes (M.range M.digit ∷ (M.digits ∷ [])) c.if-s-at.false (ap (M.settle (M.signed ∷ [])) c.if-b-eq45.true) c.digits_from_one.ensures

pub returns-then-b-eq43 : goal.returns-then-b-eq43
unfolding M.settle M.alts M.pick M.within
returns-then-b-eq43 c = takes (M.range M.digit ∷ (M.digits ∷ [])) c.if-s-at.false (ap (M.settle (M.signed ∷ [])) c.if-b-eq43.true) c.digits_from_one-then-b-eq43.ensures

pub returns : goal.returns
returns c = alike (M.range M.digit ∷ (M.digits ∷ [])) (λ d. go-alike _ _ d (M.signed ∷ []) (M.range M.digit ∷ (M.digits ∷ [])) c.if-s-at.false (signed-digit [] _ c.if-b-eq45.false c.if-b-eq43.false)) c.digits_from_one-2.ensures
