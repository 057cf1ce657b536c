-- `string::escape` meets its contract. Assumes nothing.
use mathlib.Core.Path.{refl, ap}
use mathlib.Core.List.{[], ◌∷◌}
use lib.ListN.{get_or}
use Rattle.json_grammar.specs.inner.Machine as M
use Rattle.json_grammar.proofs.Steps.{ends, stops, closes, takes}
use Rattle.json_read.proofs.Characters.{escape-plain, escape-other}
use Rattle.json_read.proofs.string.escape.Goals as goal

pub returns-then-s-at : goal.returns-then-s-at
unfolding M.ready M.nullable
returns-then-s-at c = ends refl c.if-s-at.true

pub returns-in-34 : goal.returns-in-34
returns-in-34 c = closes c.if-s-at.false (escape-plain _ c.in-34.is)

pub returns-in-117 : goal.returns-in-117
unfolding M.settle M.alts M.pick M.within
returns-in-117 c = let s = c.args.s.now in let at = c.args.at in let x = get_or s at 0 in takes (M.hex ∷ (M.hex ∷ (M.hex ∷ (M.hex ∷ [])))) c.if-s-at.false (ap (M.settle (M.escape ∷ [])) c.in-117.is) c.hex_four.ensures

pub returns-in_default : goal.returns-in_default
returns-in_default c = stops c.if-s-at.false (escape-other _ c.in_default.in_default-own.rest.0.1 c.in_default.in_default-own.rest.1)
