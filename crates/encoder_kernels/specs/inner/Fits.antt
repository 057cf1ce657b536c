-- What the inner functions ask of the places and lengths that they are handed. Assumes nothing.
use Rattle.std.specs.Prelude.{◌≡◌, ℕ, ◌+◌, ◌*◌, ◌≤◌}
use Rattle.buffers.specs.inner.Apart.{Apart}

pub record NormRowFits (lens lenw x y dim : ℕ) : Type 0 where
  pub small : dim ≤ 2048
  pub xin : x + dim ≤ lens
  pub yin : y + dim ≤ lens
  pub win : lenw ≡ dim
  pub apart : Apart x dim y dim

pub record NormFits (lens lenw x y n dim : ℕ) : Type 0 where
  pub small : dim ≤ 2048
  pub xin : x + n * dim ≤ lens
  pub yin : y + n * dim ≤ lens
  pub win : lenw ≡ dim
  pub apart : Apart x (n * dim) y (n * dim)
