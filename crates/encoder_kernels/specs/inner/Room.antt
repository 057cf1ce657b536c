-- Whether what a kernel is handed fits. Assumes nothing.
use Rattle.std.specs.Prelude.{Bool, ◌&&◌, ℕ, ◌*◌, leb, eqb}
use Rattle.buffers.specs.inner.Room.{inside, aside}

-- n rows of dim at x, with a weight for each place of a row, to y
unfoldable pub norm_fits : ℕ → ℕ → ℕ → ℕ → ℕ → ℕ → Bool
norm_fits lens lenw x y n dim =
    (inside lens x (n * dim) && inside lens y (n * dim)) && ((leb dim 2048 && eqb lenw dim) && aside x (n * dim) y (n * dim))
