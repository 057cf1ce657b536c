-- `picture_patches::pixel::pixel_of` meets its contract. Assumes nothing.
use Rattle.picture_resize.specs.Resize.{whole}
use borrow.Author.Rules.{rules}
use Rattle.picture_patches.proofs.pixel.pixel_of.Goals as goal

pub returns : goal.returns
unfolding whole
returns c = search rules
