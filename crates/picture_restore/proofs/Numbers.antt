-- The number and the sides of restore's answer are the paper's. Assumes nothing.
use mathlib.Core.Path.{◌≡◌, refl, sym, subst}
use mathlib.Core.Bool.{Bool, true, false, ◌&&◌}
use mathlib.Core.List.{List}
use Prim.Native.Nat.{ℕ, ◌*◌}
use lib.Dec.{leb, eqb}
use lib.ListN.{length}
use lib.Ieee.{Float}
use Rattle.picture_limits.specs.declared.PictureSettings.{PictureSettings}
use Rattle.picture_limits.specs.declared.Refusal.TheVariants.{Setting, Channel, Output, Grid, PatchesLength, Sample}
use Rattle.std.specs.Prelude.{Result, Ok, Err}
use Rattle.picture_limits.specs.declared.Refusal.{Refusal}
use Rattle.picture_restore.specs.declared.Picture.{Picture}
use Rattle.picture_limits.specs.Refusal.{unless, reported}
use Rattle.picture_limits.specs.Settings.{allowed}
use Rattle.picture_limits.specs.Shape.{grid_allowed}
use Rattle.picture_limits.specs.Places.{patch_floats}
use Rattle.picture_samples.specs.Samples.{channels_allowed, value_of, pattern_of}
use Rattle.picture_view.specs.Known.{known}
use Rattle.picture_restore.specs.Restore.{restored, restore_number, number, height, width, Numbered}

-- the ladder of answers and that of numbers, test by test
record Told (a : Result Picture Refusal) (n h w : ℕ) : Type 0 where
  number_is : number a ≡ n
  height-is : height a ≡ reported (number a) h
  width_is : width a ≡ reported (number a) w

told : (a f b c d e : Bool) (h w : ℕ)
    → Told (unless a (Err Setting) (unless f (Err Channel) (unless b (Err Grid) (unless c (Err PatchesLength) (unless d (Err Output) (unless e (Err Sample) (Ok (record { height = h; width = w }))))))))
    (unless a 1 (unless f 19 (unless b 6 (unless c 7 (unless d 5 (unless e 8 0)))))) h w
told false f b c d e h w = record { number_is = refl; height-is = refl; width_is = refl }
told true false b c d e h w = record { number_is = refl; height-is = refl; width_is = refl }
told true true false c d e h w = record { number_is = refl; height-is = refl; width_is = refl }
told true true true false d e h w = record { number_is = refl; height-is = refl; width_is = refl }
told true true true true false e h w = record { number_is = refl; height-is = refl; width_is = refl }
told true true true true true false h w = record { number_is = refl; height-is = refl; width_is = refl }
told true true true true true true h w = record { number_is = refl; height-is = refl; width_is = refl }

module _ (s : PictureSettings) (l : List Float) (gh gw room : ℕ) where
  pub numbered : (a : Result Picture Refusal) → a ≡ restored s l gh gw room → Numbered s l gh gw room a
  unfolding restored restore_number
  numbered a e =
      let p = s.patch_size in
      let t = told (allowed s) (channels_allowed (value_of s)) (grid_allowed s gh && grid_allowed s gw) (eqb (length l) (gh * gw * patch_floats p)) (leb (gh * p * (gw * p) * 3) room) (known (pattern_of s) p l) (gh * p) (gw * p) in
      subst (Numbered s l gh gw room) (sym e) (record { number_is = t.number_is; height-is = t.height-is; width_is = t.width_is })

  -- an answer and what stands beside it, with its numbers
  pub settled : {a : Result Picture Refusal} {O : Type 0} → a ≡ restored s l gh gw room → O → (a ≡ restored s l gh gw room) × (O × Numbered s l gh gw room a)
  settled {a} e o = (e, (o, numbered a e))
