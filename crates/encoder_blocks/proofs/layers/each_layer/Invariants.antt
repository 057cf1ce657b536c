-- `encoder_blocks::layers::each_layer` meets its contract. Assumes nothing.
use mathlib.Core.Path.{◌≡◌}
use lib.ListN.{length}
use Rattle.encoder_blocks.specs.Block.{layers_run}
use Rattle.encoder_steps.specs.Run.{answer}
use Rattle.encoder_blocks.specs.Tables.{cos_by, sin_by}
use Rattle.encoder_blocks.specs.inner.Live.{h_at}
use Rattle.encoder_blocks.proofs.layers.each_layer.Given as goal

abbrev pub invariant-loop-l : goal.invariant-loop-l
invariant-loop-l l =
    (length l.s ≡ length l.initial.s)
    × (answer l.ok (h_at l.z l.s) ≡ layers_run l.z l.w (cos_by l.z l.tables) (sin_by l.z l.tables) l.l (h_at l.z l.initial.s))
