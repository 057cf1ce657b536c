-- Whether what a sum is handed fits. Assumes nothing.
use Rattle.std.specs.Prelude.{Bool, ◌&&◌, ℕ, ◌*◌, eqb}
use Rattle.buffers.specs.inner.Room.{inside, aside}

-- n rows of nin at x, by nout rows of weights, to y
unfoldable pub linear_fits : ℕ → ℕ → ℕ → ℕ → ℕ → ℕ → ℕ → Bool
linear_fits lens lenw x y n nin nout =
    (inside lens x (n * nin) && inside lens y (n * nout)) && (inside lenw 0 (nout * nin) && aside x (n * nin) y (n * nout))

-- and with a bias
unfoldable pub bias_fits : ℕ → ℕ → ℕ → ℕ → ℕ → ℕ → ℕ → ℕ → Bool
bias_fits lens lenw lenb x y n nin nout = linear_fits lens lenw x y n nin nout && eqb lenb nout

-- the first n rows of another slice, to y
unfoldable pub from_fits : ℕ → ℕ → ℕ → ℕ → ℕ → ℕ → ℕ → Bool
from_fits lenx lens lenw y n nin nout =
    (inside lenx 0 (n * nin) && inside lens y (n * nout)) && inside lenw 0 (nout * nin)

-- t weights at row, by t rows of dim at v, the hd places from o on: sums at out
unfoldable pub weigh_fits : ℕ → ℕ → ℕ → ℕ → ℕ → ℕ → ℕ → ℕ → Bool
weigh_fits len row v out t dim hd o =
    (inside dim o hd && inside len v (t * dim)) && ((inside len row t && inside len out hd) && (aside row t out hd && aside v (t * dim) out hd))

-- and with a second row at b, whose sums go to y
unfoldable pub weigh_pair_fits : ℕ → ℕ → ℕ → ℕ → ℕ → ℕ → ℕ → ℕ → ℕ → ℕ → Bool
weigh_pair_fits len a b v x y t dim hd o =
    (weigh_fits len a v x t dim hd o && weigh_fits len b v y t dim hd o) && ((aside a t y hd && aside b t x hd) && aside x hd y hd)
