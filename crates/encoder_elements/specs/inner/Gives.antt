-- What a function that is handed over gives. Assumes nothing.
use Rattle.std.specs.Prelude.{◌≡◌, Float}

-- each result is g of the value
abbrev pub Gives : (Float → Float → Type 0) → (Float → Float) → Type 0
Gives P g = (x r : Float) → P x r → r ≡ g x

-- each result is g of the two values
abbrev pub GivesOfTwo : (Float → Float → Float → Type 0) → (Float → Float → Float) → Type 0
GivesOfTwo P g = (x y r : Float) → P x y r → r ≡ g x y
