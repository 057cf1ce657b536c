-- Whether the places that are handed fit. Assumes nothing.
use Rattle.std.specs.Prelude.{Bool, ◌&&◌, ℕ}
use Rattle.buffers.specs.inner.Room.{inside, aside}

-- the n values at y, with the n at z
unfoldable pub pair_fits : ℕ → ℕ → ℕ → ℕ → Bool
pair_fits lens y z n = (inside lens y n && inside lens z n) && aside z n y n
