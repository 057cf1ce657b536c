-- What the functions inside write, and what printing asks. Assumes nothing.
use Rattle.std.specs.Prelude.{◌≡◌, List, ℕ, ◌+◌, ◌*◌, ◌≤◌, length}
use Rattle.buffers.specs.Region.{put}

-- text was written from `at` on, and r is behind it
pub record Wrote (old new : List ℕ) (at : ℕ) (text : List ℕ) (r : ℕ) : Type 0 where
  pub text-is : new ≡ put old at text
  pub next-is : r ≡ at + length text

-- what printing a picture asks: a grid, its merge, h rows of n bytes out of so many, and the room for the text
pub record Shown (gh gw m h n bytes space : ℕ) : Type 0 where
  pub tall : gh ≤ 64
  pub wide : gw ≤ 64
  pub merge_low : 1 ≤ m
  pub merge-high : m ≤ 4
  pub rows-high : h ≤ 64
  pub row-long : n ≤ 192
  pub inside : h * n ≤ bytes
  pub room : 25094 ≤ space
