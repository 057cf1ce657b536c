-- What a step leaves and says. Assumes nothing.
use Rattle.std.specs.Prelude.{Bool, ◌&&◌, ◌≡◌, List, ℕ, ◌+◌, ◌*◌, ◌≤◌, length, Float}
use Rattle.buffers.specs.Region.{region, put}
use Rattle.buffers.specs.inner.Apart.{Apart}
use Rattle.buffers.specs.inner.Room.{inside, where_fits}
use Rattle.encoder_linear.specs.inner.Room.{linear_fits}
use Rattle.encoder_kernels.specs.Kernels.{all_finite}

-- the n floats at y lie inside, and are finite
unfoldable pub finite_at : List Float → ℕ → ℕ → Bool
finite_at s y n = inside (length s) y n && all_finite (region s y n)

-- a linear layer by the matrix at place at of the weights, from x to y
unfoldable pub linear_at_fits : ℕ → ℕ → ℕ → ℕ → ℕ → ℕ → ℕ → ℕ → Bool
linear_at_fits lens lenw x y n nin nout at = inside lenw at (nout * nin) && linear_fits lens (nout * nin) x y n nin nout

-- and with a bias at place b
unfoldable pub bias_at_fits : ℕ → ℕ → ℕ → ℕ → ℕ → ℕ → ℕ → ℕ → ℕ → Bool
bias_at_fits lens lenw x y n nin nout at b = (inside lenw at (nout * nin) && inside lenw b nout) && linear_fits lens (nout * nin) x y n nin nout

-- what that asks
pub record LinearAt (lens lenw x y rows nin nout at : ℕ) : Type 0 where
  pub x_in : x + rows * nin ≤ lens
  pub y_in : y + rows * nout ≤ lens
  pub w_in : at + nout * nin ≤ lenw
  pub apart : Apart x (rows * nin) y (rows * nout)

-- a step, whether it fits or not: l written at y where it fits, and whether the n floats there are finite, and all up to here
pub record Tried (fits : Bool) (s t : List Float) (y n : ℕ) (l : List Float) (ok r : Bool) : Type 0 where
  pub all : t ≡ where_fits fits s y l
  pub finite-is : r ≡ (ok && finite_at t y n)

-- one that fits: l written at y, and whether all is finite up to here
pub record Wrote (s t : List Float) (y : ℕ) (l : List Float) (ok r : Bool) : Type 0 where
  pub all : t ≡ put s y l
  pub finite-is : r ≡ (ok && all_finite l)
