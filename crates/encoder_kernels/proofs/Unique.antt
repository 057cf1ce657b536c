-- Any two results that satisfy the contract of a public function are equal. Assumes nothing.
use mathlib.Core.Path.{◌≡◌}
use mathlib.Core.Bool.{Bool}
use mathlib.Core.List.{List}
use Prim.Native.Nat.{ℕ, ◌*◌}
use lib.ListN.{length}
use lib.Ieee.{Float}
use Rattle.encoder_kernels.specs.Kernels.{all_finite, norm_of}
use Rattle.buffers.specs.Region.{region}
use Rattle.buffers.specs.inner.Room.{where_fits}
use Rattle.encoder_kernels.specs.inner.Room.{norm_fits}
use Rattle.number_floats.proofs.Unique.{one}

pub finite-unique : (x : List Float) (r r' : Bool) → r ≡ all_finite x → r' ≡ all_finite x → r ≡ r'
finite-unique x r r' = one _

abbrev pub Norms : List Float → ℕ → ℕ → ℕ → ℕ → List Float → List Float → Type 0
Norms s x y n dim w s' =
    s' ≡ where_fits (norm_fits (length s) (length w) x y n dim) s y (norm_of n dim w (region s x (n * dim)))

pub rms-norm-unique : (s : List Float) (x y n dim : ℕ) (w : List Float) (s' s'' : List Float) → Norms s x y n dim w s' → Norms s x y n dim w s'' → s' ≡ s''
rms-norm-unique s x y n dim w s' s'' = one _
