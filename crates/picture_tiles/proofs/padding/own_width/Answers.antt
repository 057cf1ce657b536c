-- `picture_tiles::padding::own_width` meets its contract. Assumes nothing.
use borrow.Author.Tests.{lt-ltb, le-ltb}
use Rattle.picture_tiles.specs.inner.Padding.{own_columns}
use Rattle.picture_tiles.proofs.padding.own_width.Goals as goal

pub returns-then-y-v : goal.returns-then-y-v
unfolding own_columns
returns-then-y-v c = rw (lt-ltb _ _ c.if-y-v.true)

pub returns-else-y-v : goal.returns-else-y-v
unfolding own_columns
returns-else-y-v c = rw (le-ltb _ _ c.if-y-v.false)
