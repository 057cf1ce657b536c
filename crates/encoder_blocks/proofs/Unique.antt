-- Any two results that satisfy the contract of a public function are equal. Assumes nothing.
use mathlib.Core.Path.{◌≡◌}
use mathlib.Core.Bool.{Bool, ◌&&◌, cond}
use mathlib.Core.List.{List}
use Prim.Native.Nat.{ℕ}
use lib.ListN.{length}
use lib.Ieee.{Float}
use Rattle.encoder_steps.specs.Run.{ran, handed}
use Rattle.encoder_blocks.specs.Block.{layers_run}
use Rattle.encoder_settings.specs.declared.Tables.{Tables}
use Rattle.encoder_settings.specs.declared.Attention.{Attention}
use Rattle.encoder_blocks.specs.Tables.{cos_by, sin_by}
use Rattle.encoder_blocks.specs.inner.Live.{h_at}
use Rattle.encoder_blocks.specs.inner.Room.{layers_fit}
use Rattle.encoder_blocks.specs.declared.Sizes.{Sizes}
use Rattle.number_floats.proofs.Unique.{one}

module _ (f : Attention) (s : List Float) (z : Sizes) (row : ℕ) (w : List Float) (count : ℕ) (lent : Tables) where
  abbrev pub Layers : Bool → List Float → Type 0
  Layers r s' =
      let R = layers_run z w (cos_by z lent) (sin_by z lent) count (h_at z s) in
      let fits = layers_fit f z (length s) (length w) lent row count in
      (r ≡ (fits && ran R)) × (s' ≡ cond fits (handed R s) s)

  pub layers-unique : (r r' : Bool) (s' s'' : List Float) → Layers r s' → Layers r' s'' → (r ≡ r') × (s' ≡ s'')
  layers-unique r r' s' s'' a b = (one _ a.0 b.0, one _ a.1 b.1)
