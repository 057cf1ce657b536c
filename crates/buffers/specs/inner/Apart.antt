-- Parts of a buffer that do not overlap. Assumes nothing.
use Rattle.std.specs.Prelude.{ℕ, ◌+◌, ◌≤◌}

-- the n elements from x and the m elements from at do not overlap
pub data Apart (x n at m : ℕ) : Type 0 where
  before : x + n ≤ at → Apart x n at m
  after : at + m ≤ x → Apart x n at m
