-- Any two results that satisfy the contract of a public function are equal. Assumes nothing.
use mathlib.Core.Path.{◌≡◌}
use mathlib.Core.List.{List}
use Prim.Native.Nat.{ℕ, ◌+◌, ◌*◌, ◌/◌}
use lib.ListN.{length}
use lib.Ieee.{Float}
use Rattle.buffers.specs.Region.{region}
use Rattle.buffers.specs.inner.Room.{where_fits}
use Rattle.encoder_rotation.specs.inner.Room.{rotate_fits, axes_fit}
use Rattle.encoder_rotation.specs.Rotate.{rotate_of}
use Rattle.encoder_rotation.specs.Axes.{expand}
use Rattle.number_floats.proofs.Unique.{one}

abbrev pub Rotates : List Float → ℕ → ℕ → ℕ → ℕ → ℕ → ℕ → List Float → List Float → List Float → Type 0
Rotates s x tokens heads half gw side cos sin s' =
    s' ≡ where_fits (rotate_fits (length s) (length cos) (length sin) x tokens heads half gw side) s x (rotate_of tokens heads half gw side cos sin (region s x (tokens * (heads * (half + half)))))

pub rotate-unique : (s : List Float) (x tokens heads half gw side : ℕ) (cos sin : List Float) (s' s'' : List Float)
    → Rotates s x tokens heads half gw side cos sin s' → Rotates s x tokens heads half gw side cos sin s'' → s' ≡ s''
rotate-unique s x tokens heads half gw side cos sin s' s'' = one _

abbrev pub RotatesAxes : List Float → ℕ → ℕ → ℕ → ℕ → ℕ → ℕ → List Float → List Float → List Float → List Float → List Float → Type 0
RotatesAxes s x tokens heads half gw side rc rs cc cs s' =
    s' ≡ where_fits (axes_fit (length s) (length rc) (length rs) (length cc) (length cs) x tokens heads half gw side) s x
    (rotate_of tokens heads half gw side (expand side (half / 2) rc cc) (expand side (half / 2) rs cs) (region s x (tokens * (heads * (half + half)))))

pub rotate-axes-unique : (s : List Float) (x tokens heads half gw side : ℕ) (rc rs cc cs : List Float) (s' s'' : List Float)
    → RotatesAxes s x tokens heads half gw side rc rs cc cs s' → RotatesAxes s x tokens heads half gw side rc rs cc cs s'' → s' ≡ s''
rotate-axes-unique s x tokens heads half gw side rc rs cc cs s' s'' = one _
