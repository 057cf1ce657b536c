-- `picture_resize::blend_byte` meets its contract. Assumes nothing.
use Rattle.picture_resize.specs.Resize.{blend}
use Rattle.picture_resize.specs.inner.Weighed.{weighed}
use Rattle.picture_resize.proofs.blend_byte.Goals as goal

pub returns : goal.returns
unfolding blend weighed
returns c = c.weighed_byte.ensures
