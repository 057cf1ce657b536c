-- `value::colon` meets its contract. Assumes nothing.
use mathlib.Core.Path.{refl, ap}
use mathlib.Core.List.{[], ◌∷◌}
use Rattle.json_grammar.specs.inner.Machine as M
use Rattle.json_grammar.proofs.Steps.{ends, stops, closes}
use Rattle.json_read.proofs.Values.{spaced-lexes, colon-stuck}
use Rattle.json_grammar.proofs.Steps.{behind-solid}
use Rattle.json_read.proofs.value.colon.Goals as goal

pub returns-then-s-i : goal.returns-then-s-i
unfolding M.alts M.ready M.nullable
returns-then-s-i c = spaced-lexes _ M.colon _ refl c.blank-i.ensures (ends refl c.if-s-i.true)

pub returns-then-s-i-ne58 : goal.returns-then-s-i-ne58
unfolding M.alts
returns-then-s-i-ne58 c = spaced-lexes _ M.colon _ refl c.blank-i.ensures (stops c.if-s-i.false (colon-stuck [] _ (behind-solid c.blank-i.ensures c.if-s-i.false) c.if-s-i-ne58.true))

pub returns : goal.returns
unfolding M.settle M.alts M.pick M.within M.values M.spaced
returns c = spaced-lexes _ M.colon _ refl c.blank-i.ensures (closes c.if-s-i.false (ap (M.settle (M.colon ∷ [])) c.if-s-i-ne58.false))
