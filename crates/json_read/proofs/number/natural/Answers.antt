-- `number::natural` meets its contract. Assumes nothing.
use mathlib.Core.Path.{refl, sym, ◌∙◌}
use mathlib.Core.List.{[]}
use borrow.Author.Tests.{not-true, not-false}
use Rattle.json_grammar.specs.inner.Machine as M
use Rattle.json_grammar.proofs.Steps.{ends, stops}
use Rattle.json_grammar.proofs.Lexing.{natural-stuck}
use Rattle.json_read.proofs.Numbers.{whole-then, whole-end, whole-alone}
use Rattle.json_read.proofs.number.natural.Goals as goal

pub returns-then-s-at : goal.returns-then-s-at
unfolding M.ready M.nullable
returns-then-s-at c = ends refl c.if-s-at.true

pub returns-then-not-is_digit : goal.returns-then-not-is_digit
returns-then-not-is_digit c = stops c.if-s-at.false (natural-stuck [] _ (sym c.is_digit.ensures ∙ not-true _ c.if-not-is_digit.true-raw))

pub whole-n-requires : goal.whole-n-requires
whole-n-requires c = (c.if-s-at.false, sym c.is_digit.ensures ∙ not-false _ c.if-not-is_digit.false-raw)

pub returns-then-s-n : goal.returns-then-s-n
returns-then-s-n c = whole-end c.whole-n.ensures c.if-s-n.true

pub returns-then-not-is_more : goal.returns-then-not-is_more
returns-then-not-is_more c = whole-alone c.whole-n.ensures c.if-s-n.false (sym c.is_more.ensures ∙ not-true _ c.if-not-is_more.true-raw)

pub returns : goal.returns
returns c = whole-then c.whole-n.ensures c.behind_digits.ensures
