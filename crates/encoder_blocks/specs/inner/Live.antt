-- Where h stands in a scratch; what stands behind it is not spoken of. Assumes nothing.
use Rattle.std.specs.Prelude.{List, Float}
use Rattle.buffers.specs.Region.{region}
use Rattle.encoder_blocks.specs.declared.Sizes.{Sizes}
use Rattle.encoder_blocks.specs.Block.{n_of}

abbrev pub h_at : Sizes → List Float → List Float
h_at z s = region s 0 (n_of z)
