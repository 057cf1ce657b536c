-- A head's values, together. Assumes nothing.
use Rattle.std.specs.Prelude.{List, ℕ, ◌+◌, ◌*◌, get_or, Float}
use Rattle.std.specs.Float.{nan}
use Rattle.buffers.specs.Rows.{grid}

-- of t values of dim: row j with the hd places of value j from o on
unfoldable pub head_values : ℕ → ℕ → ℕ → ℕ → List Float → List Float
head_values t dim hd o v = grid t hd (λ j d. get_or v (j * dim + (o + d)) nan)
