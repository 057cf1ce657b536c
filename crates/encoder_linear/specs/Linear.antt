-- Sums, from +0 upward, each product and each sum rounded once: weighted sums, and the linear layer: row r of the result holds, for
-- each row c of w, the sum of x[r, k] * w[c, k], plus b[c] where the layer carries a bias b. Assumes nothing.
use Rattle.std.specs.Prelude.{List, ℕ, zero, suc, ◌*◌, ◌+◌, length, get_or, Float}
use Rattle.std.specs.Float.{nan, binary32}
use Rattle.std.specs.Float.Ieee.{add, mul}
use Rattle.buffers.specs.Rows.{tab}
use Rattle.buffers.specs.Region.{region}
use Rattle.number_floats.specs.Constants.{zero32}
use Rattle.buffers.specs.Each.{each_row, both}

-- f 0 + .. + f (n - 1)
unfoldable pub sum_of : ℕ → (ℕ → Float) → Float
sum_of zero f = zero32
sum_of (suc n) f = add binary32 (sum_of n f) (f n)

abbrev pub dot_of : List Float → List Float → Float
dot_of x w = sum_of (length x) (λ k. mul binary32 (get_or x k nan) (get_or w k nan))

-- one row of nin by each of the nout rows of w
unfoldable pub linear_row : ℕ → ℕ → List Float → List Float → List Float
linear_row nin nout w x = tab nout (λ c. dot_of x (region w (c * nin) nin))

-- n rows of nin by each of the nout rows of w
unfoldable pub linear_of : ℕ → ℕ → ℕ → List Float → List Float → List Float
linear_of n nin nout w x = each_row n nin (λ _. linear_row nin nout w) x

-- each of n rows of nout finished sums plus the bias, one addition each
unfoldable pub biased : ℕ → ℕ → List Float → List Float → List Float
biased n nout b y = each_row n nout (λ _ r. both nan nout (λ s c. add binary32 s c) r b) y

-- what a linear layer carries: no bias, which is not a bias of zeros, or one
pub data Bias : Type 0 where
  none : Bias
  carried : List Float → Bias

unfoldable pub linear_by : Bias → ℕ → ℕ → ℕ → List Float → List Float → List Float
linear_by none n nin nout w x = linear_of n nin nout w x
linear_by (carried b) n nin nout w x = biased n nout b (linear_of n nin nout w x)

-- ---- weighted sums

-- the sum, row after row, of the weights by the values at place o of t rows of dim
unfoldable pub column_of : ℕ → ℕ → ℕ → List Float → List Float → Float
column_of t dim o p v = sum_of t (λ j. mul binary32 (get_or p j nan) (get_or v (j * dim + o) nan))

-- those at the hd places from o on
unfoldable pub weighed_row : ℕ → ℕ → ℕ → ℕ → List Float → List Float → List Float
weighed_row t dim hd o p v = tab hd (λ d. column_of t dim (o + d) p v)
