-- `picture_samples::allowed::channels_allowed` meets its contract. Assumes nothing.
use Rattle.buffers.specs.Rows.{all}
use Rattle.picture_samples.specs.Samples.{channels_allowed}
use Rattle.picture_samples.proofs.allowed.channels_allowed.Goals as goal

pub returns : goal.returns
unfolding channels_allowed all
returns c = cc (c.channel_allowed-3.ensures, c.channel_allowed-2.ensures, c.channel_allowed.ensures)
