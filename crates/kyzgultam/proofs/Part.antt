-- What stands at the place that `kz_patch` gives is the patch. Assumes nothing.
use mathlib.Core.Path.{◌≡◌, refl}
use mathlib.Core.Bool.{Bool, true, false, cond, ◌&&◌}
use mathlib.Core.List.{List, []}
use Prim.Native.Nat.{ℕ, ◌+◌, ◌*◌}
use lib.Dec.{leb}
use lib.ListN.{length, take, drop}
use lib.Ieee.{Float}
use Rattle.buffers.specs.Region.{region}
use Rattle.picture_limits.specs.Settings.{within}
use Rattle.picture_limits.specs.Places.{patch_floats}
use Rattle.picture.specs.Part.{patch_part}
use Rattle.face_picture.specs.declared.PatchPlace.{PatchPlace}
use Rattle.face_picture.specs.Reports.{place_of}

pub place-is-patch : (l : List Float) (p i : ℕ) → region l (place_of (length l) p i).start (place_of (length l) p i).len ≡ patch_part l p i
unfolding place_of patch_part
place-is-patch l p i = go (within 1 32 p && leb (i * patch_floats p + patch_floats p) (length l))
  where
    at : Bool → PatchPlace
    at b = cond b (record { start = i * patch_floats p; len = patch_floats p }) (record { start = 0; len = 0 })

    go : (b : Bool) → region l (at b).start (at b).len ≡ cond b (take (patch_floats p) (drop (i * patch_floats p) l)) []
    go true = refl
    go false = refl
