-- `picture_samples::allowed::channel_allowed` meets its contract. Assumes nothing.
use Rattle.picture_samples.specs.Samples.{channel_allowed}
use Rattle.picture_samples.proofs.allowed.channel_allowed.Goals as goal

pub returns : goal.returns
unfolding channel_allowed
returns c = cc (c.falls.ensures, c.rises.ensures, c.all_finite.ensures)
