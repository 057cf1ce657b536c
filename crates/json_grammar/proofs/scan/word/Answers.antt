-- `scan::word` meets its contract. Assumes nothing.
use Rattle.json_grammar.proofs.Lexing.{word_end, word-other, word-done, word_more}
use mathlib.Core.Path.{refl, ◌∙◌}
use native.Mathlib.Omega.{arith}
use lib.ListN.{drop}
use Rattle.json_grammar.specs.inner.Steps.{letters}
use Rattle.json_grammar.proofs.Steps.{moved}
use Rattle.json_grammar.proofs.scan.word.Goals as goal

pub loop-b-init : goal.loop-b-init
loop-b-init c = (omega arith, omega arith, λ d. refl)

pub returns-then-s-i : goal.returns-then-s-i
returns-then-s-i c = let w = c.args.w.now in moved c.loop-b.i (letters (drop c.loop-b.b-index w)) c.loop-b.invariant.0 c.loop-b.invariant.1 c.loop-b.invariant.2 (word_end w c.loop-b.b-index c.if-s-i.true c.loop-b-test.true)

pub returns-then-s-i-2 : goal.returns-then-s-i-2
returns-then-s-i-2 c = let w = c.args.w.now in moved c.loop-b.i (letters (drop c.loop-b.b-index w)) c.loop-b.invariant.0 c.loop-b.invariant.1 c.loop-b.invariant.2 (word-other w c.loop-b.b-index c.if-s-i.false c.loop-b-test.true c.if-s-i-2.true)

pub loop-b-preserved : goal.loop-b-preserved
loop-b-preserved c = let w = c.args.w.now in (omega arith, omega arith, λ d. c.loop-b.invariant.2 d ∙ word_more _ c.loop-b.i w c.loop-b.b-index d c.if-s-i.false c.loop-b-test.true c.if-s-i-2.false)

pub returns : goal.returns
returns c = let w = c.args.w.now in moved c.loop-b.i (letters (drop c.loop-b.b-index w)) c.loop-b.invariant.0 c.loop-b.invariant.1 c.loop-b.invariant.2 (word-done w c.loop-b.b-index c.loop-b-test.false)
