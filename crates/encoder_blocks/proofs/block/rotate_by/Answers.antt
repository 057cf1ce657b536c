-- `encoder_blocks::block::rotate_by` meets its contract. Assumes nothing.
use Rattle.encoder_blocks.proofs.Halves.{turned}
use Rattle.encoder_blocks.proofs.block.rotate_by.Goals as goal

pub shape_of-s-in-Full : goal.shape_of-s-in-Full
shape_of-s-in-Full c = c.rotate_finite.auto.s

pub returns-in-Full : goal.returns-in-Full
returns-in-Full c = rw c.in-Full.is (turned c.args.z _ c.args.x (rw c.in-Full.is at c.requires.rotation_fits) c.requires.z_in_bounds c.rotate_finite.ensures)

pub shape_of-s-in-Axes : goal.shape_of-s-in-Axes
shape_of-s-in-Axes c = c.rotate_axes_finite.auto.s

pub returns-in-Axes : goal.returns-in-Axes
returns-in-Axes c = rw c.in-Axes.is (turned c.args.z _ c.args.x (rw c.in-Axes.is at c.requires.rotation_fits) c.requires.z_in_bounds c.rotate_axes_finite.ensures)
