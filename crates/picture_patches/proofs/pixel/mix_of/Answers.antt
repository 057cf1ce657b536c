-- `picture_patches::pixel::mix_of` meets its contract. Assumes nothing.
use native.Mathlib.Omega.{arith}
use Rattle.picture_resize.specs.Resize.{mix}
use Rattle.picture_patches.proofs.pixel.mix_of.Goals as goal

pub pixel_of-v00-requires : goal.pixel_of-v00-requires
pixel_of-v00-requires c = omega (arith, c.requires.0, c.requires.2, c.requires.4)

pub pixel_of-v01-requires : goal.pixel_of-v01-requires
pixel_of-v01-requires c = omega (arith, c.requires.0, c.requires.3, c.requires.4)

pub pixel_of-v10-requires : goal.pixel_of-v10-requires
pixel_of-v10-requires c = omega (arith, c.requires.1, c.requires.2, c.requires.4)

pub pixel_of-v11-requires : goal.pixel_of-v11-requires
pixel_of-v11-requires c = omega (arith, c.requires.1, c.requires.3, c.requires.4)

pub returns : goal.returns
unfolding mix
returns c = rw (c.blend_byte.ensures, c.pixel_of-v11.ensures, c.pixel_of-v10.ensures, c.pixel_of-v01.ensures, c.pixel_of-v00.ensures)
