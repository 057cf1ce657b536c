-- `picture_resize::whole_of` meets its contract. Assumes nothing.
use Rattle.picture_resize.specs.Resize.{whole}
use Rattle.std.proofs.Common.{rules}
use Rattle.picture_resize.proofs.whole_of.Goals as goal

pub returns : goal.returns
unfolding whole
returns c = search rules
