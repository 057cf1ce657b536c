-- `scan::blank` meets its contract. Assumes nothing.
use mathlib.Core.Path.{◌≡◌, refl, sym, ◌∙◌}
use native.Mathlib.Omega.{arith}
use borrow.Author.Tests.{not-true, not-false}
use Rattle.json_grammar.proofs.Lexing.{skip_at, skip-none, skip-end}
use Rattle.json_grammar.proofs.scan.blank.Goals as goal

pub loop-i-init : goal.loop-i-init
loop-i-init c = (omega arith, omega arith, refl)

pub returns-then-not-is_blank : goal.returns-then-not-is_blank
returns-then-not-is_blank c = let k = not-true _ c.if-not-is_blank.true-raw in record { same = sym (c.loop-i.invariant.2 ∙ skip-none _ c.loop-i.i c.loop-i-test.true (sym c.is_blank.ensures ∙ k)); low = c.loop-i.invariant.0; high = c.loop-i.invariant.1 }

pub loop-i-preserved : goal.loop-i-preserved
loop-i-preserved c = let k = not-false _ c.if-not-is_blank.false-raw in (omega arith, omega arith, c.loop-i.invariant.2 ∙ skip_at _ c.loop-i.i c.loop-i-test.true (sym c.is_blank.ensures ∙ k))

pub returns : goal.returns
returns c = let e : c.max.result ≡ c.loop-i.i = grind arith in rw e (record { same = sym (c.loop-i.invariant.2 ∙ skip-end _ c.loop-i.i c.loop-i-test.false); low = c.loop-i.invariant.0; high = c.loop-i.invariant.1 })
