-- `number::digits_from_one` meets its contract. Assumes nothing.
use mathlib.Core.Path.{refl, sym, ◌∙◌}
use mathlib.Core.List.{[], ◌∷◌}
use borrow.Author.Tests.{not-true, not-false}
use Rattle.json_grammar.specs.inner.Machine as M
use Rattle.json_grammar.proofs.Steps.{ends, stops, takes}
use Rattle.json_grammar.proofs.Lexing.{digit-took, digit-stuck}
use Rattle.json_read.proofs.number.digits_from_one.Goals as goal

pub returns-then-s-at : goal.returns-then-s-at
unfolding M.ready M.nullable
returns-then-s-at c = ends refl c.if-s-at.true

pub returns-then-not-is_digit : goal.returns-then-not-is_digit
returns-then-not-is_digit c = stops c.if-s-at.false (digit-stuck (M.digits ∷ []) _ (sym c.is_digit.ensures ∙ not-true _ c.if-not-is_digit.true-raw))

pub returns : goal.returns
returns c = takes (M.digits ∷ []) c.if-s-at.false (digit-took (M.digits ∷ []) _ (sym c.is_digit.ensures ∙ not-false _ c.if-not-is_digit.false-raw)) c.digits.ensures
