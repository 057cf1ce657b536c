-- `scan::digits` meets its contract. Assumes nothing.
use mathlib.Core.Path.{◌≡◌, refl, sym, ◌∙◌}
use mathlib.Core.List.{[], ◌∷◌}
use native.Mathlib.Omega.{arith}
use borrow.Author.Tests.{not-true, not-false}
use Rattle.json_grammar.specs.inner.Machine as M
use Rattle.json_grammar.proofs.Steps.{ends-past, passes, moved, go-took}
use Rattle.json_grammar.proofs.Lexing.{digits-took, digits-skip}
use Rattle.json_grammar.proofs.scan.digits.Goals as goal

pub loop-i-init : goal.loop-i-init
loop-i-init c = (omega arith, omega arith, λ d. refl)

pub returns-then-not-is_digit : goal.returns-then-not-is_digit
unfolding M.settle
returns-then-not-is_digit c = let k = not-true _ c.if-not-is_digit.true-raw in moved c.loop-i.i (M.digits ∷ []) c.loop-i.invariant.0 c.loop-i.invariant.1 c.loop-i.invariant.2 (passes c.loop-i-test.true (digits-skip [] _ (sym c.is_digit.ensures ∙ k)))

pub loop-i-preserved : goal.loop-i-preserved
loop-i-preserved c = let k = not-false _ c.if-not-is_digit.false-raw in (omega arith, omega arith, λ d. c.loop-i.invariant.2 d ∙ go-took _ c.loop-i.i d (M.digits ∷ []) (M.digits ∷ []) c.loop-i-test.true (digits-took [] _ (sym c.is_digit.ensures ∙ k)))

pub returns : goal.returns
unfolding M.ready M.nullable
returns c = let e : c.max.result ≡ c.loop-i.i = grind arith in rw e (moved c.loop-i.i (M.digits ∷ []) c.loop-i.invariant.0 c.loop-i.invariant.1 c.loop-i.invariant.2 (ends-past refl c.loop-i-test.false))
