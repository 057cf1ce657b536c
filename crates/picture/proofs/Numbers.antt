-- The number and the sizes of preprocess's answer are the paper's. Assumes nothing.
use Rattle.std.specs.Prelude.{Result, Ok, Err}
use mathlib.Core.Path.{◌≡◌, refl, sym, subst}
use mathlib.Core.Bool.{Bool, true, false}
use Prim.Native.Nat.{ℕ, ◌*◌}
use lib.Dec.{leb, eqb}
use Rattle.picture_limits.specs.declared.PictureSettings.{PictureSettings}
use Rattle.picture_limits.specs.declared.Refusal.{Refusal}
use Rattle.picture_limits.specs.declared.Refusal.TheVariants.{Setting, Channel, Side, RgbLength, ImageSize, Output}
use Rattle.picture.specs.declared.Patches.{Patches}
use Rattle.picture_limits.specs.Refusal.{unless, reported, number_of}
use Rattle.picture_limits.specs.Settings.{allowed, sided, align}
use Rattle.picture_samples.specs.Samples.{channels_allowed, value_of}
use Rattle.picture_limits.specs.Sides.{gh_of, gw_of}
use Rattle.picture.specs.Preprocess.{sized, floats_of, preprocessed, preprocess_number, grid_h, grid_w, floats, Numbered}

-- the ladder of answers and that of numbers, test by test
record Told (a : Result Patches Refusal) (n gh gw k : ℕ) : Type 0 where
  number_is : number_of a ≡ n
  grid-h-is : grid_h a ≡ reported (number_of a) gh
  grid-w-is : grid_w a ≡ reported (number_of a) gw
  floats-is : floats a ≡ reported (number_of a) k

told : (a f b c d e : Bool) (gh gw k : ℕ)
    → Told (unless a (Err Setting) (unless f (Err Channel) (unless b (Err Side) (unless c (Err RgbLength) (unless d (Err ImageSize) (unless e (Err Output) (Ok (sized gh gw k))))))))
    (unless a 1 (unless f 19 (unless b 2 (unless c 3 (unless d 4 (unless e 5 0)))))) gh gw k
told false f b c d e gh gw k = record { number_is = refl; grid-h-is = refl; grid-w-is = refl; floats-is = refl }
told true false b c d e gh gw k = record { number_is = refl; grid-h-is = refl; grid-w-is = refl; floats-is = refl }
told true true false c d e gh gw k = record { number_is = refl; grid-h-is = refl; grid-w-is = refl; floats-is = refl }
told true true true false d e gh gw k = record { number_is = refl; grid-h-is = refl; grid-w-is = refl; floats-is = refl }
told true true true true false e gh gw k = record { number_is = refl; grid-h-is = refl; grid-w-is = refl; floats-is = refl }
told true true true true true false gh gw k = record { number_is = refl; grid-h-is = refl; grid-w-is = refl; floats-is = refl }
told true true true true true true gh gw k = record { number_is = refl; grid-h-is = refl; grid-w-is = refl; floats-is = refl }

module _ (s : PictureSettings) (len h w room : ℕ) where
  pub numbered : (a : Result Patches Refusal) → a ≡ preprocessed s len h w room → Numbered s len h w room a
  unfolding preprocessed preprocess_number
  numbered a e =
      let t = told (allowed s) (channels_allowed (value_of s)) (sided h w) (eqb len (h * w * 3)) (leb (align s) s.image_size) (leb (floats_of s h w) room) (gh_of s h w) (gw_of s h w) (floats_of s h w) in
      subst (Numbered s len h w room) (sym e) (record { number_is = t.number_is; grid-h-is = t.grid-h-is; grid-w-is = t.grid-w-is; floats-is = t.floats-is })

  -- an answer and what stands beside it, with its numbers
  pub settled : {a : Result Patches Refusal} {O : Type 0} → a ≡ preprocessed s len h w room → O → (a ≡ preprocessed s len h w room) × (O × Numbered s len h w room a)
  settled {a} e o = (e, (o, numbered a e))
