-- `picture_view::pattern_of` meets its contract: its operations are the formula's. Assumes nothing.
use Rattle.picture_samples.specs.Samples.{sample}
use Rattle.picture_view.proofs.pattern_of.Goals as goal

pub returns : goal.returns
unfolding sample
returns c = c.bits_of_f32.ensures
