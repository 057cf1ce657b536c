-- Sums that run side by side, one in each of sixteen lanes, and matrices that are filled column by column.
-- Assumes nothing.
use Rattle.std.specs.Prelude.{List, ℕ, zero, suc, ◌+◌, ◌*◌, ◌/◌, ◌%◌, get_or, set, Float}
use Rattle.std.specs.Float.{nan, binary32}
use Rattle.std.specs.Float.Ieee.{add, mul}
use Rattle.buffers.specs.Rows.{grid}
use Rattle.encoder_linear.specs.Linear.{sum_of}

-- a + f 0 + .. + f (n - 1)
unfoldable pub sum_from : Float → ℕ → (ℕ → Float) → Float
sum_from a zero f = a
sum_from a (suc n) f = add binary32 (sum_from a n f) (f n)

-- lane l goes on from a by n products; xt holds its factor k at k * 16 + l
abbrev pub lane_of : ℕ → List Float → List Float → List Float → ℕ → Float
lane_of n a xt w l = sum_from (get_or a l nan) n (λ k. mul binary32 (get_or xt (k * 16 + l) nan) (get_or w k nan))

module _ {A : Type 0} where
  -- v 0, .., v (n - 1) at at, at + m, ..
  unfoldable pub spread : List A → ℕ → ℕ → ℕ → (ℕ → A) → List A
  spread s at m zero v = s
  spread s at m (suc n) v = set (spread s at m n v) (at + n * m) (v n)

  -- the first c columns of the r rows of m at y, filled with f
  unfoldable pub filled : List A → ℕ → ℕ → ℕ → ℕ → (ℕ → ℕ → A) → List A
  filled s y m r zero f = s
  filled s y m r (suc c) f = spread (filled s y m r c f) (y + c) m r (λ l. f l c)

-- the sum at row l and column c of the rows of nout at y of s goes on by n products: lane l of xt by the floats from k on
-- of row c of w
abbrev pub gone_sum : List Float → List Float → List Float → ℕ → ℕ → ℕ → ℕ → ℕ → ℕ → ℕ → Float
gone_sum s w xt y nin nout k n l c = sum_from (get_or s (y + (l * nout + c)) nan) n (λ j. mul binary32 (get_or xt (j * 16 + l) nan) (get_or w (c * nin + (k + j)) nan))

-- cell i, of lane i % 4 and row i / 4 of the weights from at on, goes on from a by n products
abbrev pub cell_of : ℕ → List Float → List Float → List Float → ℕ → ℕ → ℕ → Float
cell_of n a xt w at nin i = sum_from (get_or a i nan) n (λ k. mul binary32 (get_or xt (k * 16 + i % 4) nan) (get_or w (at + k + i / 4 * nin) nan))

-- product k of row l of x and row c of w
abbrev pub product : ℕ → List Float → List Float → ℕ → ℕ → ℕ → Float
product nin w x l c k = mul binary32 (get_or x (l * nin + k) nan) (get_or w (c * nin + k) nan)

-- the linear layer's sums, each of its first k products only
abbrev pub begun : ℕ → ℕ → ℕ → ℕ → List Float → List Float → List Float
begun k r nin nout w x = grid r nout (λ l c. sum_of k (product nin w x l c))

-- the sums of y, each with the n products from k on
abbrev pub gone_on : ℕ → ℕ → ℕ → ℕ → ℕ → List Float → List Float → List Float → List Float
gone_on k n r nin nout w x y = grid r nout (λ l c. sum_from (get_or y (l * nout + c) nan) n (λ j. product nin w x l c (k + j)))
