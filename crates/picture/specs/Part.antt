-- Patch i as a part of the patches. Assumes nothing.
use Rattle.std.specs.Prelude.{cond, ◌&&◌, List, [], ℕ, ◌+◌, ◌*◌, leb, length, take, drop, Float}
use Rattle.picture_limits.specs.Settings.{within}
use Rattle.picture_limits.specs.Places.{patch_floats}

-- the floats from place i·3p², where p is in 1..32 and the whole patch lies inside; else none
unfoldable pub patch_part : List Float → ℕ → ℕ → List Float
patch_part l p i =
    cond (within 1 32 p && leb (i * patch_floats p + patch_floats p) (length l)) (take (patch_floats p) (drop (i * patch_floats p) l)) []
