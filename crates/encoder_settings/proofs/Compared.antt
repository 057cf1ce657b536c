-- The lengths that are told are those that a forward call is compared with. Assumes nothing.
use mathlib.Core.Path.{◌≡◌, refl}
use mathlib.Core.Bool.{Bool, true, false, ◌&&◌}
use Prim.Native.Nat.{ℕ, ◌*◌, ◌/◌}
use native.Mathlib.Omega.{arith}
use lib.Dec.{leb, eqb}
use Rattle.picture_limits.specs.declared.Refusal.{Refusal}
use Rattle.picture_limits.specs.declared.Refusal.TheVariants.{Setting, Output, Grid, PatchesLength, WeightsLength, TableLength, Scratch}
use Rattle.std.specs.Prelude.{Result, Ok, Err}
use Rattle.picture_limits.specs.Refusal.{unless}
use Rattle.picture_limits.specs.Settings as P
use Rattle.picture_limits.specs.Places.{patch_floats}
use Rattle.picture_limits.specs.Shape.{grid_allowed, shaped}
use Rattle.encoder_settings.specs.declared.EncoderSettings.{EncoderSettings}
use Rattle.encoder_settings.specs.declared.lengths.Lengths.{Lengths}
use Rattle.encoder_settings.specs.Settings.{Checked, accepted, allowed, merge_area, weight_floats, table_floats, axis_floats, scratch_floats, lengths, onward, checked_of}
use Rattle.encoder_settings.specs.Lengths.{floats_for, needed_of}
use Rattle.encoder_settings.proofs.Bounds.{picture-allowed}

-- what a call is answered by what is needed: 7, 9, 10, 5 and 11 compare with it, and its refusal is the call's
-- tables says by the two lengths of a table whether those of the call are right
abbrev pub compared_by : Result Lengths Refusal → ℕ → ℕ → ℕ → ℕ → (ℕ → ℕ → Bool) → ℕ → ℕ → Checked
compared_by (Err r) t o patches weights tables out scratch = Err r
compared_by (Ok l) t o patches weights tables out scratch =
    unless (eqb patches l.patches) (Err PatchesLength)
    (unless (eqb weights l.weights) (Err WeightsLength)
    (unless (tables l.tables l.axes) (Err TableLength)
    (unless (leb l.out out) (Err Output)
    (unless (leb l.scratch scratch) (Err Scratch)
    (accepted t o)))))

module _ (s : EncoderSettings) (gh gw patches weights : ℕ) (tables : ℕ → ℕ → Bool) (out scratch : ℕ) where
  abbrev told : Result Lengths Refusal → Checked
  told n = compared_by n (gh * gw) (gh * gw / merge_area s.picture) patches weights tables out scratch

  abbrev asked : ℕ → Checked
  asked t = lengths s t (t / merge_area s.picture) weights (tables (table_floats s) (axis_floats s)) out (scratch_floats s t (t / merge_area s.picture)) scratch

  by-grid : (g l : Bool) → eqb patches (gh * gw * patch_floats s.picture.patch_size) ≡ l
      → onward (unless g (Err Grid) (unless l (Err PatchesLength) (Ok (gh * gw)))) asked
      ≡ told (unless g (Err Grid) (Ok (floats_for s (gh * gw) (gh * gw / merge_area s.picture))))
  unfolding lengths
  by-grid false l e = refl
  by-grid true false e = rw e refl
  by-grid true true e = rw e refl

  by-settings : (a : Bool) → allowed s ≡ a
      → unless a (Err Setting) (onward (shaped s.picture gh gw patches) asked)
      ≡ told (unless a (Err Setting) (unless (grid_allowed s.picture gh && grid_allowed s.picture gw) (Err Grid) (Ok (floats_for s (gh * gw) (gh * gw / merge_area s.picture)))))
  unfolding shaped
  by-settings false e = refl
  by-settings true e = rw (picture-allowed s e) (by-grid (grid_allowed s.picture gh && grid_allowed s.picture gw) (eqb patches (gh * gw * patch_floats s.picture.patch_size)) refl)

  pub compared : checked_of s gh gw patches weights (tables (table_floats s) (axis_floats s)) out scratch ≡ told (needed_of s gh gw)
  unfolding checked_of needed_of
  compared = by-settings (allowed s) refl
