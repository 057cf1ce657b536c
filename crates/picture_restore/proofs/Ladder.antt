-- Restore's numbers 1, 6 and 7 are those of the test that forward shares. Assumes nothing.
use mathlib.Core.Path.{◌≡◌, refl, ◌∙◌}
use mathlib.Core.Bool.{Bool, true, false, ◌&&◌}
use mathlib.Core.List.{List}
use Prim.Native.Nat.{ℕ, ◌*◌}
use lib.Dec.{eqb, leb}
use lib.ListN.{length}
use lib.Ieee.{Float}
use Rattle.picture_limits.specs.declared.PictureSettings.{PictureSettings}
use Rattle.picture_limits.specs.declared.Refusal.TheVariants.{Setting, Channel, Output, Grid, PatchesLength, Sample}
use Rattle.std.specs.Prelude.{Result, Ok, Err}
use Rattle.picture_limits.specs.declared.Refusal.{Refusal}
use Rattle.picture_restore.specs.declared.Picture.{Picture}
use Rattle.picture_limits.specs.Refusal.{unless}
use Rattle.picture_limits.specs.Settings.{allowed}
use Rattle.picture_limits.specs.Shape.{grid_allowed, shaped}
use Rattle.picture_limits.specs.Places.{patch_floats}
use Rattle.picture_samples.specs.Samples.{channels_allowed, value_of, pattern_of}
use Rattle.picture_limits.proofs.Shapes.{shaped-says}
use Rattle.picture_view.specs.Known.{known}
use Rattle.picture_restore.specs.Restore.{restored}

-- where settings, grid and length are in order, the room and then the samples decide
abbrev pub decided : PictureSettings → List Float → ℕ → ℕ → ℕ → Result ℕ Refusal → Result Picture Refusal
decided s l gh gw room (Err r) = Err r
decided s l gh gw room (Ok t) =
    unless (leb (gh * s.patch_size * (gw * s.patch_size) * 3) room) (Err Output)
    (unless (known (pattern_of s) s.patch_size l) (Err Sample)
    (Ok (record { height = gh * s.patch_size; width = gw * s.patch_size })))

-- between 1 and 6 stand the channels
pub agrees : (s : PictureSettings) (l : List Float) (gh gw room : ℕ)
    → restored s l gh gw room ≡ unless (allowed s) (Err Setting) (unless (channels_allowed (value_of s)) (Err Channel) (decided s l gh gw room (shaped s gh gw (length l))))
unfolding restored shaped
agrees s l gh gw room = go (allowed s) (channels_allowed (value_of s)) (grid_allowed s gh && grid_allowed s gw) (eqb (length l) (gh * gw * patch_floats s.patch_size))
  where
    go : (a d g n : Bool)
        → unless a (Err Setting) (unless d (Err Channel) (unless g (Err Grid) (unless n (Err PatchesLength) (decided s l gh gw room (Ok (gh * gw))))))
        ≡ unless a (Err Setting) (unless d (Err Channel) (decided s l gh gw room (unless a (Err Setting) (unless g (Err Grid) (unless n (Err PatchesLength) (Ok (gh * gw)))))))
    go false d g n = refl
    go true false g n = refl
    go true true false n = refl
    go true true true false = refl
    go true true true true = refl

-- where the shape is accepted and so are the channels, the room and then the samples decide
pub agreed : (s : PictureSettings) (l : List Float) (gh gw room t : ℕ) → shaped s gh gw (length l) ≡ Ok t → channels_allowed (value_of s) ≡ true
    → restored s l gh gw room ≡ decided s l gh gw room (Ok t)
agreed s l gh gw room t e d =
    let a = (shaped-says s gh gw (length l) t e).accepts in
    agrees s l gh gw room ∙ rw (a, d, e) refl
