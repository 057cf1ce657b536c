-- `picture_limits::settings::view_inside` meets its contract. Assumes nothing.
use Rattle.picture_limits.specs.View.{inside}
use Rattle.picture_limits.proofs.settings.view_inside.Goals as goal

pub returns : goal.returns
unfolding inside
returns c = rw (c.span_inside.ensures, c.span_inside-2.ensures)
