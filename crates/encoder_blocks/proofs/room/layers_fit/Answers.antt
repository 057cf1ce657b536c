-- `encoder_blocks::room::layers_fit` meets its contract. Assumes nothing.
use mathlib.Core.Path.{sym, ◌∙◌}
use Rattle.encoder_blocks.specs.inner.Room.{layers_fit}
use Rattle.encoder_blocks.proofs.Rooms.{products, sizes-say}
use Rattle.encoder_blocks.proofs.room.layers_fit.Goals as goal

pub lengths_fit-requires : goal.lengths_fit-requires
lengths_fit-requires c = products c.args.z (sizes-say c.args.z (sym c.sizes_fit.ensures ∙ c.if-sizes_fit.true))

pub returns-then-sizes_fit : goal.returns-then-sizes_fit
unfolding layers_fit
returns-then-sizes_fit c = rw (← c.sizes_fit.ensures, c.if-sizes_fit.true) c.lengths_fit.ensures

pub returns : goal.returns
unfolding layers_fit
returns c = rw (← c.sizes_fit.ensures, c.if-sizes_fit.false)
