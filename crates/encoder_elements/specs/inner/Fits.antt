-- What the inner functions ask of the places that they are handed. Assumes nothing.
use Rattle.std.specs.Prelude.{ℕ, ◌+◌, ◌≤◌}
use Rattle.buffers.specs.inner.Apart.{Apart}

-- F of the n values at y and the n at z, to y
pub record PairFits (lens y z n : ℕ) : Type 0 where
  pub yin : y + n ≤ lens
  pub zin : z + n ≤ lens
  pub apart : Apart z n y n
