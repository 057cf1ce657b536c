-- `picture_patches::view::own_columns` meets its contract. Assumes nothing.
use borrow.Author.Tests.{lt-ltb, le-ltb}
use Rattle.picture_patches.specs.inner.Frame.{own}
use Rattle.picture_patches.proofs.view.own_columns.Goals as goal

pub returns-then-v-r : goal.returns-then-v-r
unfolding own
returns-then-v-r c = rw (le-ltb _ _ c.if-v-r.true)

pub returns : goal.returns
unfolding own
returns c = rw (lt-ltb _ _ c.if-v-r.false, c.min.ensures, c.saturating_sub.ensures)
