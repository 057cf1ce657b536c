-- Any two results that satisfy the contract of a public function are equal. Assumes nothing.
use mathlib.Core.Path.{◌≡◌}
use mathlib.Core.List.{List}
use Prim.Native.Nat.{ℕ}
use lib.ListN.{length}
use lib.Ieee.{Float}
use Rattle.buffers.specs.Region.{region}
use Rattle.buffers.specs.inner.Room.{inside, where_fits}
use Rattle.encoder_softmax.specs.Softmax.{max_of, inverse_of, scaled, softmax_of}
use Rattle.number_floats.proofs.Unique.{one}

pub row-max-unique : (x : List Float) (r r' : Float) → r ≡ max_of x → r' ≡ max_of x → r ≡ r'
row-max-unique x r r' = one _

pub inverse-unique : (x r r' : Float) → r ≡ inverse_of x → r' ≡ inverse_of x → r ≡ r'
inverse-unique x r r' = one _

abbrev pub Scales : List Float → ℕ → ℕ → Float → List Float → Type 0
Scales s y n m s' = s' ≡ where_fits (inside (length s) y n) s y (scaled n m (region s y n))

pub scale-row-unique : (s : List Float) (y n : ℕ) (m : Float) (s' s'' : List Float) → Scales s y n m s' → Scales s y n m s'' → s' ≡ s''
scale-row-unique s y n m s' s'' = one _

abbrev pub Softens : List Float → ℕ → ℕ → List Float → Type 0
Softens s row t s' = s' ≡ where_fits (inside (length s) row t) s row (softmax_of t (region s row t))

pub softmax-unique : (s : List Float) (row t : ℕ) (s' s'' : List Float) → Softens s row t s' → Softens s row t s'' → s' ≡ s''
softmax-unique s row t s' s'' = one _
