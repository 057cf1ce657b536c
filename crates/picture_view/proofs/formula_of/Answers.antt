-- `picture_view::formula_of` meets its contract: three channels are all. Assumes nothing.
use mathlib.Core.Path.{refl}
use Rattle.buffers.specs.Rows.{all}
use Rattle.picture_view.specs.inner.Known.{formula_of}
use Rattle.picture_view.proofs.formula_of.Goals as goal

pub returns-then-exact : goal.returns-then-exact
unfolding formula_of all
returns-then-exact c = rw (← c.channel_exact-3.ensures, ← c.channel_exact-2.ensures, ← c.channel_exact.ensures, c.if-exact.true) refl

pub returns-else-exact : goal.returns-else-exact
unfolding formula_of all
returns-else-exact c = rw (← c.channel_exact-3.ensures, ← c.channel_exact-2.ensures, ← c.channel_exact.ensures, c.if-exact.false) refl
