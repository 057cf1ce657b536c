-- The patches of a picture resized, over the front of an output, where they fit and their table is allowed. Assumes nothing.
use Rattle.std.specs.Prelude.{Bool, ◌&&◌, cond, List, ℕ, ◌*◌, ◌/◌, leb, eqb, length, Float}
use Rattle.buffers.specs.Region.{over}
use Rattle.picture_limits.specs.Settings.{within, sided}
use Rattle.picture_limits.specs.Places.{patch_floats}
use Rattle.picture_samples.specs.Samples.{channels_allowed, value}
use Rattle.picture_resize.specs.Resize.{resized_at}
use Rattle.picture_patches.specs.Patches.{patches}

-- of rgb, h rows of w pixels, resized to th rows of tw; v c b is the value of byte b in channel c
abbrev pub resized_patches : (ℕ → ℕ → Float) → List ℕ → ℕ → ℕ → ℕ → ℕ → ℕ → List Float
resized_patches v rgb h w th tw p = patches p (th / p) (tw / p) (λ y x c. v c (resized_at rgb h w th tw y x c))

-- the sides, the target's sides and the patch size lie in the paper's ranges; len bytes are the picture, and the patches fit into room
unfoldable pub fits : ℕ → ℕ → ℕ → ℕ → ℕ → ℕ → ℕ → Bool
fits len h w th tw p room =
    sided h w && (leb th 2048 && leb tw 2048 && within 1 32 p && (eqb len (h * w * 3) && leb (th / p * (tw / p) * patch_floats p) room))

-- by a table k
unfoldable pub patches_over : (ℕ → ℕ → ℕ) → List ℕ → ℕ → ℕ → ℕ → ℕ → ℕ → List Float → List Float
patches_over k rgb h w th tw p old =
    cond (channels_allowed (value k) && fits (length rgb) h w th tw p (length old)) (over (resized_patches (value k) rgb h w th tw p) old) old
