-- `walk::opens` meets its contract. Assumes nothing.
use mathlib.Core.Path.{refl}
use borrow.Author.Tests.{lt-ltb, le-ltb}
use Rattle.tensor_header.proofs.walk.opens.Goals as goal

pub returns-then-h-at : goal.returns-then-h-at
returns-then-h-at c = rw (le-ltb _ _ c.if-h-at.true) refl

pub returns : goal.returns
returns c = rw (lt-ltb _ _ c.if-h-at.false) refl
