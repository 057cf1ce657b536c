-- `picture_spot::guess` meets its contract: its sums are the definition's. Assumes nothing.
use Rattle.picture_spot.specs.inner.Spot.{guessed}
use Rattle.picture_spot.proofs.guess.Goals as goal

pub returns : goal.returns
unfolding guessed
returns c = rw c.bits_of_f32.ensures
