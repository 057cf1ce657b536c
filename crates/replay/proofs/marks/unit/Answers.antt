-- `marks::unit` meets its contract. Assumes nothing.
use Rattle.replay.specs.Marks.{unit_of}
use Rattle.replay.proofs.marks.unit.Goals as goal

pub returns : goal.returns
unfolding unit_of
returns c = rw c.nearest_u32_to_f32.ensures
