-- `value::name` meets its contract. Assumes nothing.
use mathlib.Core.Path.{refl, ap}
use mathlib.Core.List.{[], ◌∷◌}
use Rattle.std.proofs.lemmas.Result.{err_from_is_err_and}
use Rattle.json_grammar.specs.inner.Machine as M
use Rattle.json_grammar.proofs.Steps.{ends, stops, takes, then-past, then-err}
use Rattle.json_read.proofs.Values.{spaced-lexes, key-stuck}
use Rattle.json_grammar.proofs.Steps.{behind-solid}
use Rattle.json_read.proofs.value.name.Goals as goal

pub returns-then-s-i : goal.returns-then-s-i
unfolding M.alts M.ready M.nullable
returns-then-s-i c = spaced-lexes _ M.key _ refl c.blank-i.ensures (ends refl c.if-s-i.true)

pub returns-then-s-i-ne34 : goal.returns-then-s-i-ne34
unfolding M.alts
returns-then-s-i-ne34 c = spaced-lexes _ M.key _ refl c.blank-i.ensures (stops c.if-s-i.false (key-stuck (M.colon ∷ []) _ (behind-solid c.blank-i.ensures c.if-s-i.false) c.if-s-i-ne34.true))

pub returns-in_err-n : goal.returns-in_err-n
unfolding M.settle M.alts M.pick M.within M.values M.spaced M.height M.weight
returns-in_err-n c = let p = err_from_is_err_and c.from_residual.result c.from_residual.ensures.1 in rw (p.1, p.2) (spaced-lexes _ M.key _ refl c.blank-i.ensures (takes (M.chars ∷ (M.colon ∷ [])) c.if-s-i.false (ap (M.settle (M.key ∷ (M.colon ∷ []))) c.if-s-i-ne34.false) (then-err (M.colon ∷ []) refl _ c.in_err-n.ensures)))

pub returns : goal.returns
unfolding M.settle M.alts M.pick M.within M.values M.spaced M.height M.weight
returns c = spaced-lexes _ M.key _ refl c.blank-i.ensures (takes (M.chars ∷ (M.colon ∷ [])) c.if-s-i.false (ap (M.settle (M.key ∷ (M.colon ∷ []))) c.if-s-i-ne34.false) (then-past (M.colon ∷ []) refl c.in_ok-n.ensures c.colon.ensures))
