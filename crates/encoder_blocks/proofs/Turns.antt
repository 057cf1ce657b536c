-- A turn of the loop over layers. Assumes nothing.
use mathlib.Core.Path.{◌≡◌, sym, ◌∙◌}
use mathlib.Core.Bool.{Bool, ◌&&◌}
use mathlib.Core.List.{List}
use Prim.Native.Nat.{ℕ, ◌+◌}
use native.Mathlib.Numerals.{add-one}
use lib.Ieee.{Float}
use Rattle.encoder_blocks.specs.declared.Sizes.{Sizes}
use Rattle.encoder_settings.specs.declared.Tables.{Tables}
use Rattle.encoder_settings.specs.Weights.{floats, nth_layer}
use Rattle.encoder_blocks.specs.Block.{parts_of, block_run, layers_run}
use Rattle.encoder_steps.specs.Run.{answer}
use Rattle.encoder_blocks.specs.inner.Fits.{BlockFits, RotationFits}
use Rattle.encoder_steps.proofs.Writes.{answer-then}

pub layers-turn : (z : Sizes) (w cos sin h p hs hs' : List Float) (l : ℕ) (ok r : Bool)
    → p ≡ nth_layer z.hidden z.inter l w
    → answer ok hs ≡ layers_run z w cos sin l h → answer r hs' ≡ block_run z p cos sin hs
    → answer (ok && r) hs' ≡ layers_run z w cos sin (l + 1) h
unfolding layers_run
layers-turn z w cos sin h p hs hs' l ok r d e f =
    rw add-one (answer-then ok r hs hs' (block_run z p cos sin) (sym f) ∙ rw (e, d))

-- what the block asks, at a layer's part of the weights
pub block_at : (z : Sizes) {lens lenw : ℕ} (lent : Tables) → lenw ≡ floats (parts_of z) → RotationFits z lens lent → BlockFits z lens lenw
block_at z lent l k = record { scratch = k.scratch; weights = l; whole = k.whole; small = k.small; dim_in = k.dim_in }
