-- Any two results that satisfy the contract of a public function are equal. Assumes nothing.
use mathlib.Core.Path.{◌≡◌}
use mathlib.Core.Bool.{Bool, ◌&&◌, cond}
use mathlib.Core.List.{List}
use Prim.Native.Nat.{ℕ, ◌*◌}
use lib.ListN.{length}
use lib.Ieee.{Float}
use Rattle.buffers.specs.Region.{region, put}
use Rattle.number_floats.specs.Constants.{zero32}
use Rattle.buffers.specs.Each.{blank}
use Rattle.encoder_kernels.specs.Kernels.{all_finite}
use Rattle.encoder_plain.specs.Plain.{floats, all_scores, plain_of}
use Rattle.encoder_plain.specs.inner.Room.{plain_fits}
use Rattle.number_floats.proofs.Unique.{one}

module _ (s : List Float) (q k v m out t heads hd : ℕ) (scaling : Float) where
  abbrev pub AttendsPlain : Bool → List Float → Type 0
  AttendsPlain r s' =
      let n = floats t heads hd in
      let fits = plain_fits (length s) q k v m out t heads hd in
      (r ≡ (fits && all_finite (all_scores t heads hd scaling (region s q n) (region s k n))))
      × (s' ≡ cond fits (put (blank zero32 m (t * t) s) out (plain_of t heads hd scaling (region s q n) (region s k n) (region s v n))) s)

  pub attend-plain-unique : (r r' : Bool) (s' s'' : List Float) → AttendsPlain r s' → AttendsPlain r' s'' → (r ≡ r') × (s' ≡ s'')
  attend-plain-unique r r' s' s'' a b = (one _ a.0 b.0, one _ a.1 b.1)
