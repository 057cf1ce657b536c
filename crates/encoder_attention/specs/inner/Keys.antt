-- Keys turned: those of one place lie together. Assumes nothing.
use Rattle.std.specs.Prelude.{List, ℕ, ◌+◌, ◌*◌, get_or, Float}
use Rattle.std.specs.Float.{nan}
use Rattle.buffers.specs.Rows.{grid}

-- of t keys of dim: dim rows, row d with place d of each key
unfoldable pub turned_keys : ℕ → ℕ → List Float → List Float
turned_keys t dim k = grid dim t (λ d j. get_or k (j * dim + d) nan)

-- and the keys again
unfoldable pub keys_of : ℕ → ℕ → List Float → List Float
keys_of t dim k = grid t dim (λ j d. get_or k (d * t + j) nan)
