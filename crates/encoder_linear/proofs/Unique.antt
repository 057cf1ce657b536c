-- Any two results that satisfy the contract of a public function are equal. Assumes nothing.
use mathlib.Core.Path.{◌≡◌}
use mathlib.Core.Bool.{cond}
use mathlib.Core.List.{List}
use Prim.Native.Nat.{ℕ, ◌*◌}
use lib.ListN.{length}
use lib.Ieee.{Float}
use Rattle.buffers.specs.Region.{region}
use Rattle.encoder_linear.specs.Linear.{linear_of, weighed_row}
use Rattle.buffers.specs.inner.Room.{where_fits}
use Rattle.encoder_linear.specs.inner.Room.{linear_fits, from_fits, weigh_fits, weigh_pair_fits}
use Rattle.encoder_linear.specs.inner.Weighed.{weighed_pair}
use Rattle.number_floats.proofs.Unique.{one}

abbrev pub Linear : List Float → ℕ → ℕ → ℕ → ℕ → ℕ → List Float → List Float → Type 0
Linear s x y n nin nout w s' =
    s' ≡ where_fits (linear_fits (length s) (length w) x y n nin nout) s y (linear_of n nin nout w (region s x (n * nin)))

pub linear-no-bias-forward-unique : (s : List Float) (x y n nin nout : ℕ) (w : List Float) (s' s'' : List Float) → Linear s x y n nin nout w s' → Linear s x y n nin nout w s'' → s' ≡ s''
linear-no-bias-forward-unique s x y n nin nout w s' s'' = one _

abbrev pub LinearFrom : List Float → List Float → ℕ → ℕ → ℕ → ℕ → List Float → List Float → Type 0
LinearFrom x s y n nin nout w s' =
    s' ≡ where_fits (from_fits (length x) (length s) (length w) y n nin nout) s y (linear_of n nin nout w x)

pub linear-from-unique : (x s : List Float) (y n nin nout : ℕ) (w : List Float) (s' s'' : List Float) → LinearFrom x s y n nin nout w s' → LinearFrom x s y n nin nout w s'' → s' ≡ s''
linear-from-unique x s y n nin nout w s' s'' = one _

abbrev pub Weighs : List Float → ℕ → ℕ → ℕ → ℕ → ℕ → ℕ → ℕ → List Float → Type 0
Weighs s row v out t dim hd o s' =
    s' ≡ where_fits (weigh_fits (length s) row v out t dim hd o) s out (weighed_row t dim hd o (region s row t) (region s v (t * dim)))

pub weigh-unique : (s : List Float) (row v out t dim hd o : ℕ) (s' s'' : List Float) → Weighs s row v out t dim hd o s' → Weighs s row v out t dim hd o s'' → s' ≡ s''
weigh-unique s row v out t dim hd o s' s'' = one _

abbrev pub WeighsPair : List Float → ℕ → ℕ → ℕ → ℕ → ℕ → ℕ → ℕ → ℕ → ℕ → List Float → Type 0
WeighsPair s a b v x y t dim hd o s' = s' ≡ cond (weigh_pair_fits (length s) a b v x y t dim hd o) (weighed_pair s a b v x y t dim hd o) s

pub weigh-pair-unique : (s : List Float) (a b v x y t dim hd o : ℕ) (s' s'' : List Float) → WeighsPair s a b v x y t dim hd o s' → WeighsPair s a b v x y t dim hd o s'' → s' ≡ s''
weigh-pair-unique s a b v x y t dim hd o s' s'' = one _
