-- The answer of preprocess is the same for any two pictures of one height and width: it never looks at a pixel. Assumes nothing.
use mathlib.Core.Path.{◌≡◌, ap}
use mathlib.Core.List.{List}
use Prim.Native.Nat.{ℕ}
use lib.ListN.{length}
use Rattle.picture_limits.specs.declared.PictureSettings.{PictureSettings}
use Rattle.picture.specs.Preprocess.{preprocessed}

pub unseen : (s : PictureSettings) (rgb rgb' : List ℕ) (h w room : ℕ) → length rgb ≡ length rgb' → preprocessed s (length rgb) h w room ≡ preprocessed s (length rgb') h w room
unseen s rgb rgb' h w room e = ap (λ (n : ℕ). preprocessed s n h w room) e
