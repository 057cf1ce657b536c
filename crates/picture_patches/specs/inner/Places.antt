-- What is stored of the neighbours of a target's rows and columns. Assumes nothing.
use Rattle.std.specs.Prelude.{◌≡◌, List, ℕ, ◌≤◌, ◌<◌, length, get_or}
use Rattle.picture_resize.specs.declared.Near.{Near}
use Rattle.picture_resize.specs.Resize.{near}
use Rattle.picture_patches.specs.declared.places.Place.{Place}

-- a target has no more rows or columns than the largest image size
abbrev pub most : ℕ
most = 2048

-- the first neighbour, and how far from it
abbrev pub place_of : Near → Place
place_of n = record { low = n.low; part = n.part }

-- that of each index of a side
pub record Placed (from to : ℕ) (places : List Place) : Type 0 where
  pub room : to ≤ length places
  pub near : (j : ℕ) (d : Place) → j < to → get_or places j d ≡ place_of (near from to j)
