-- A part of a picture. Assumes nothing.
use Rattle.std.specs.Prelude.{Bool, ◌&&◌, ℕ, ◌+◌, leb, ltb}
use Rattle.picture_limits.specs.declared.View.{View}

-- it lies inside a picture of h rows and w columns
unfoldable pub inside : View → ℕ → ℕ → Bool
inside v h w = leb (v.top + v.height) h && leb (v.left + v.width) w

-- it has row y and column x, counted from its first
abbrev pub has : View → ℕ → ℕ → Bool
has v y x = ltb y v.height && ltb x v.width
