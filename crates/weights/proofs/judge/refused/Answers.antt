-- `judge::refused` meets its contract. Assumes nothing.
use mathlib.Core.Path.{refl}
use native.Mathlib.Numerals.{add-one}
use native.Mathlib.Omega.{arith}
use borrow.Author.Tests.{eq-eqb, ne_eqb}
use Rattle.weights.proofs.judge.refused.Goals as goal

pub returns-then-at-eq0 : goal.returns-then-at-eq0
returns-then-at-eq0 c = λ h. rw (eq-eqb _ 0 c.if-at-eq0.true, add-one c.args.i) refl

pub returns-then-h-at : goal.returns-then-h-at
returns-then-h-at c = λ h. absurd (omega (arith, h, c.if-h-at.true))

pub returns : goal.returns
returns c = λ h. rw (ne_eqb _ 0 c.if-at-eq0.false, add-one c.args.i) refl
