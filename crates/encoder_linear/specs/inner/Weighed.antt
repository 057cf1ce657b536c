-- Two weighted sums at once, as they stand in a scratch. Assumes nothing.
use Rattle.std.specs.Prelude.{List, ℕ, ◌*◌, Float}
use Rattle.buffers.specs.Region.{region, put}
use Rattle.encoder_linear.specs.Linear.{weighed_row}

-- of the t weights at a those to x, and of the t at b those to y, by the t rows of dim at v
unfoldable pub weighed_pair : List Float → ℕ → ℕ → ℕ → ℕ → ℕ → ℕ → ℕ → ℕ → ℕ → List Float
weighed_pair s a b v x y t dim hd o =
    put (put s x (weighed_row t dim hd o (region s a t) (region s v (t * dim)))) y (weighed_row t dim hd o (region s b t) (region s v (t * dim)))
