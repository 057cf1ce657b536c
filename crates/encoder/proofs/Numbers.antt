-- The number and the count of forward's answer are the paper's. Assumes nothing.
use mathlib.Core.Path.{◌≡◌, refl, sym, subst}
use mathlib.Core.Bool.{Bool, true, false, ◌&&◌}
use mathlib.Core.List.{List}
use Prim.Native.Nat.{ℕ, ◌*◌, ◌/◌}
use lib.Dec.{leb, eqb}
use lib.ListN.{length}
use lib.Ieee.{Float}
use Rattle.picture_limits.specs.declared.Refusal.TheVariants.{Setting, Output, Grid, PatchesLength, WeightsLength, TableLength, Scratch, Tokens}
use Rattle.std.specs.Prelude.{Result, Ok, Err}
use Rattle.picture_limits.specs.Refusal.{unless}
use Rattle.picture_limits.specs.Settings as P
use Rattle.picture_limits.specs.Places.{patch_floats}
use Rattle.picture_limits.specs.Shape.{grid_allowed, shaped}
use Rattle.encoder_settings.specs.declared.EncoderSettings.{EncoderSettings}
use Rattle.encoder_settings.specs.Settings.{Checked, accepted, allowed, merge_area, weight_floats, scratch_floats, plain_floats, full_tables, lengths, onward, checked_of, checked_plain}
use Rattle.encoder_settings.proofs.Bounds.{picture-allowed}
use Rattle.encoder_steps.specs.Run.{Run, stopped, went, ran}
use Rattle.encoder_run.specs.Stages.{forward_run}
use Rattle.encoder.specs.Forward.{number_of, Numbered}
use Rattle.encoder_run.specs.Answer.{Encoded, encoded_by}
use Rattle.encoder.specs.Plain.{encoded_plain, plain_number}

-- the ladder of answers and that of numbers, test by test: 9, 10, 5, 11, 12
by_lengths : (a b c d : Bool) (r : Run) (t o : ℕ)
    → Numbered (unless a 9 (unless b 10 (unless c 5 (unless d 11 (unless (ran r) 12 0))))) o
    (encoded_by (unless a (Err WeightsLength) (unless b (Err TableLength) (unless c (Err Output) (unless d (Err Scratch) (accepted t o))))) r)
by_lengths false b c d r t o = record { number_is = refl; tokens-is = refl }
by_lengths true false c d r t o = record { number_is = refl; tokens-is = refl }
by_lengths true true false d r t o = record { number_is = refl; tokens-is = refl }
by_lengths true true true false r t o = record { number_is = refl; tokens-is = refl }
by_lengths true true true true stopped t o = record { number_is = refl; tokens-is = refl }
by_lengths true true true true (went l) t o = record { number_is = refl; tokens-is = refl }

-- 22
by-tokens : (a : Bool) (r : Run) (c : Checked) (n o : ℕ) → Numbered n o (encoded_by c r) → Numbered (unless a 22 n) o (encoded_by (unless a (Err Tokens) c) r)
by-tokens true r c n o h = h
by-tokens false r c n o h = record { number_is = refl; tokens-is = refl }

-- 6, 7
by_shape : (a b : Bool) (f : ℕ → Checked) (r : Run) (t n o : ℕ) → Numbered n o (encoded_by (f t) r)
    → Numbered (unless a 6 (unless b 7 n)) o (encoded_by (onward (unless a (Err Grid) (unless b (Err PatchesLength) (Ok t))) f) r)
by_shape false b f r t n o h = record { number_is = refl; tokens-is = refl }
by_shape true false f r t n o h = record { number_is = refl; tokens-is = refl }
by_shape true true f r t n o h = h

-- few says whether the tokens are few enough, and needed how much scratch it takes
module _ (few : ℕ → Bool) (needed : ℕ → ℕ → ℕ) (s : EncoderSettings) (gh gw patches weights : ℕ) (tables : Bool) (out scratch : ℕ) (run : Run) where
  abbrev said : ℕ → ℕ → ℕ
  said t o =
      unless (grid_allowed s.picture gh && grid_allowed s.picture gw) 6
      (unless (eqb patches (t * patch_floats s.picture.patch_size)) 7
      (unless (few t) 22
      (unless (eqb weights (weight_floats s)) 9
      (unless tables 10
      (unless (leb (o * s.text_hidden_size) out) 5
      (unless (leb (needed t o) scratch) 11
      (unless (ran run) 12
      0)))))))

  abbrev asked : ℕ → Checked
  asked t = let o = t / merge_area s.picture in unless (few t) (Err Tokens) (lengths s t o weights tables out (needed t o) scratch)

  by-picture : P.allowed s.picture ≡ true
      → Numbered (said (gh * gw) (gh * gw / merge_area s.picture)) (gh * gw / merge_area s.picture) (encoded_by (onward (shaped s.picture gh gw patches) asked) run)
  unfolding shaped lengths
  by-picture e =
      let t = gh * gw in
      let o = t / merge_area s.picture in
      rw e
      (by_shape (grid_allowed s.picture gh && grid_allowed s.picture gw) (eqb patches (t * patch_floats s.picture.patch_size)) asked run t _ o
      (by-tokens (few t) run _ _ o (by_lengths (eqb weights (weight_floats s)) tables (leb (o * s.text_hidden_size) out) (leb (needed t o) scratch) run t o)))

  by-settings : (a : Bool) → allowed s ≡ a
      → Numbered (unless a 1 (said (gh * gw) (gh * gw / merge_area s.picture))) (gh * gw / merge_area s.picture) (encoded_by (unless a (Err Setting) (onward (shaped s.picture gh gw patches) asked)) run)
  by-settings false e = record { number_is = refl; tokens-is = refl }
  by-settings true e = by-picture (picture-allowed s e)

-- forward's, by either form of tables
pub numbered : (s : EncoderSettings) (gh gw patches weights : ℕ) (tables : Bool) (out scratch : ℕ) (run : Run) (a : Encoded)
    → a ≡ encoded_by (checked_of s gh gw patches weights tables out scratch) run
    → Numbered (number_of s gh gw patches weights tables out scratch run) (gh * gw / merge_area s.picture) a
unfolding checked_of number_of
numbered s gh gw patches weights tables out scratch run a e =
    subst (Numbered (number_of s gh gw patches weights tables out scratch run) (gh * gw / merge_area s.picture)) (sym e) (by-settings (λ _. true) (scratch_floats s) s gh gw patches weights tables out scratch run (allowed s) refl)

-- and with plain attention
pub plain-numbered : (s : EncoderSettings) (gh gw : ℕ) (w cos sin x : List Float) (out scratch : ℕ) (a : Encoded)
    → a ≡ encoded_plain s gh gw w cos sin x out scratch → Numbered (plain_number s gh gw w cos sin x out scratch) (gh * gw / merge_area s.picture) a
unfolding encoded_plain checked_plain plain_number
plain-numbered s gh gw w cos sin x out scratch a e =
    subst (Numbered (plain_number s gh gw w cos sin x out scratch) (gh * gw / merge_area s.picture)) (sym e)
    (by-settings (λ t. leb t 64) (plain_floats s) s gh gw (length x) (length w) (full_tables s (length cos) (length sin)) out scratch (forward_run s gh gw w cos sin x) (allowed s) refl)
