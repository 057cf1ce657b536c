-- `print::glyph` meets its contract. Assumes nothing.
use borrow.Author.Tests.{lt-ltb, le-ltb}
use mathlib.Core.Path.{refl}
use Rattle.unpatch_text.proofs.print.glyph.Goals as goal

-- src/print.rt:36:1
pub returns-then-d-lt10 : goal.returns-then-d-lt10
returns-then-d-lt10 c = rw (lt-ltb _ _ c.if-d-lt10.true) refl

-- src/print.rt:36:1
pub returns-else-d-lt10 : goal.returns-else-d-lt10
returns-else-d-lt10 c = rw (le-ltb _ _ c.if-d-lt10.false) refl
