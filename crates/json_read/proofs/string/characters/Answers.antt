-- `string::characters` meets its contract. Assumes nothing.
use mathlib.Core.Path.{refl, ap, ◌∙◌}
use mathlib.Core.List.{[], ◌∷◌}
use native.Mathlib.Omega.{arith}
use Rattle.std.proofs.lemmas.Result.{err_from_is_err_and}
use Rattle.json_grammar.specs.inner.Machine as M
use Rattle.json_grammar.proofs.Steps.{ends, closes, moved}
use Rattle.json_read.proofs.Characters.{char-past, char-told, char-err}
use Rattle.json_read.proofs.string.characters.Goals as goal

pub loop-i-init : goal.loop-i-init
loop-i-init c = (omega arith, omega arith, λ d. refl)

pub returns-then-s-i-eq34 : goal.returns-then-s-i-eq34
unfolding M.settle M.alts M.pick M.within
returns-then-s-i-eq34 c = moved c.loop-i.i (M.chars ∷ []) c.loop-i.invariant.0 c.loop-i.invariant.1 c.loop-i.invariant.2 (closes c.loop-i-test.true (ap (M.settle (M.chars ∷ [])) c.if-s-i-eq34.true))

pub character-requires : goal.character-requires
character-requires c = (c.loop-i-test.true, c.if-s-i-eq34.false)

pub loop-i-smaller : goal.loop-i-smaller
loop-i-smaller c = let k = c.character.ensures.falls _ c.in_ok-i.was in omega arith

pub loop-i-preserved : goal.loop-i-preserved
loop-i-preserved c = let k = char-told c.in_ok-i.was c.character.ensures in (omega (arith, k.low), omega (arith, k.high), λ d. c.loop-i.invariant.2 d ∙ char-past k d)

pub returns-in_err-i : goal.returns-in_err-i
returns-in_err-i c = let p = err_from_is_err_and c.from_residual.result c.from_residual.ensures.1 in rw (p.1, p.2) (moved c.loop-i.i (M.chars ∷ []) c.loop-i.invariant.0 c.loop-i.invariant.1 c.loop-i.invariant.2 (char-err _ c.in_err-i.ensures))

pub returns : goal.returns
unfolding M.ready M.nullable
returns c = moved c.loop-i.i (M.chars ∷ []) c.loop-i.invariant.0 c.loop-i.invariant.1 c.loop-i.invariant.2 (ends refl c.loop-i-test.false)
