-- `picture_resize::near_of` meets its contract. Assumes nothing.
use Rattle.picture_resize.specs.Resize.{near}
use Rattle.picture_resize.proofs.near_of.Goals as goal

pub returns : goal.returns
unfolding near
returns c = cc
