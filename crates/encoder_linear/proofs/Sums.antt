-- Laws of sums and of the linear layer. Assumes nothing.
use mathlib.Core.Path.{◌≡◌, refl}
use mathlib.Core.List.{List}
use Prim.Native.Nat.{ℕ, zero, suc, ◌*◌, ◌<◌}
use native.Mathlib.Omega.{arith}
use lib.ListN.{length}
use lib.Ieee.{Float, nan, binary32, add}
use Rattle.buffers.specs.Region.{region}
use Rattle.buffers.specs.Each.{both}
use Rattle.buffers.proofs.Lists.{length-tab, length-rows}
use Rattle.encoder_linear.specs.Linear.{sum_of, linear_row, linear_of, biased, Bias, none, carried, linear_by, weighed_row}

pub sum-ext : (n : ℕ) (f g : ℕ → Float) → ((k : ℕ) → k < n → f k ≡ g k) → sum_of n f ≡ sum_of n g
unfolding sum_of
sum-ext zero f g h = refl
sum-ext (suc n) f g h = let e = sum-ext n f g (λ k l. h k (omega arith)) in let e' = h n (omega arith) in cc

pub length-linear-row : (nin nout : ℕ) (w x : List Float) → length (linear_row nin nout w x) ≡ nout
unfolding linear_row
length-linear-row nin nout w x = simp length-tab

pub length-linear : (n nin nout : ℕ) (w x : List Float) → length (linear_of n nin nout w x) ≡ n * nout
unfolding linear_of
length-linear n nin nout w x = length-rows (λ i. linear_row nin nout w (region x (i * nin) nin)) nout (λ i. length-linear-row nin nout w (region x (i * nin) nin)) n

pub length-biased : (n nout : ℕ) (b y : List Float) → length (biased n nout b y) ≡ n * nout
unfolding biased
length-biased n nout b y = length-rows (λ i. both nan nout (λ s c. add binary32 s c) (region y (i * nout) nout) b) nout (λ i. simp length-tab) n

pub length-linear-by : (c : Bias) (n nin nout : ℕ) (w x : List Float) → length (linear_by c n nin nout w x) ≡ n * nout
unfolding linear_by
length-linear-by none n nin nout w x = length-linear n nin nout w x
length-linear-by (carried b) n nin nout w x = length-biased n nout b (linear_of n nin nout w x)

pub length-weighed : (t dim hd o : ℕ) (p v : List Float) → length (weighed_row t dim hd o p v) ≡ hd
unfolding weighed_row
length-weighed t dim hd o p v = simp length-tab
