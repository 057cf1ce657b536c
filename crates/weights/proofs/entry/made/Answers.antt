-- `entry::made` meets its contract. Assumes nothing.
use mathlib.Core.Path.{refl, ◌∙◌}
use borrow.Author.Tests.{eq-eqb, ne_eqb}
use Rattle.weights.proofs.entry.made.Goals as goal

pub returns-in_default : goal.returns-in_default
returns-in_default c = rw c.in_default.is refl

pub returns-in_default-offsets : goal.returns-in_default-offsets
returns-in_default-offsets c = rw (c.in-Some.is, c.in_default-offsets.is) refl

pub returns-then-offsets-ne2 : goal.returns-then-offsets-ne2
returns-then-offsets-ne2 c = rw (c.in-Some.is, c.in-Some-offsets.is, ne_eqb _ 2 c.if-offsets-ne2.true) refl
