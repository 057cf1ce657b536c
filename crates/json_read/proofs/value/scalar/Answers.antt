-- `value::scalar` meets its contract. Assumes nothing.
use mathlib.Core.Path.{ap}
use mathlib.Core.List.{[], ◌∷◌}
use Rattle.json_grammar.specs.inner.Machine as M
use Rattle.json_grammar.specs.inner.Steps.{letters}
use Rattle.json_grammar.proofs.Steps.{takes}
use Rattle.json_read.proofs.Numbers.{number-value}
use Rattle.json_read.proofs.value.scalar.Goals as goal

pub returns-then-b-eq102 : goal.returns-then-b-eq102
unfolding M.settle M.alts M.pick M.within M.values M.spaced letters
returns-then-b-eq102 c = takes (M.one 0x61 ∷ (M.one 0x6C ∷ (M.one 0x73 ∷ (M.one 0x65 ∷ [])))) c.requires.0 (ap (M.settle (M.value ∷ [])) c.if-b-eq102.true) c.word.ensures

pub returns-then-b-eq110 : goal.returns-then-b-eq110
unfolding M.settle M.alts M.pick M.within M.values M.spaced letters
returns-then-b-eq110 c = takes (M.one 0x75 ∷ (M.one 0x6C ∷ (M.one 0x6C ∷ []))) c.requires.0 (ap (M.settle (M.value ∷ [])) c.if-b-eq110.true) c.word-then-b-eq110.ensures

pub returns-then-b-eq116 : goal.returns-then-b-eq116
unfolding M.settle M.alts M.pick M.within M.values M.spaced letters
returns-then-b-eq116 c = takes (M.one 0x72 ∷ (M.one 0x75 ∷ (M.one 0x65 ∷ []))) c.requires.0 (ap (M.settle (M.value ∷ [])) c.if-b-eq116.true) c.word-then-b-eq116.ensures

pub returns : goal.returns
returns c = number-value c.requires.0 c.requires.4 c.requires.3 c.requires.1 c.requires.2 c.if-b-eq102.false c.if-b-eq110.false c.if-b-eq116.false c.behind_minus.ensures c.natural.ensures
