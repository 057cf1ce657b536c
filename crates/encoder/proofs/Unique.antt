-- Any two results that satisfy the contract of forward, by either form of tables and of attention, are equal, and the count of token vectors is o. Assumes nothing.
use mathlib.Core.Path.{◌≡◌, refl, ◌∙◌}
use mathlib.Core.Bool.{Bool, true, false}
use mathlib.Core.List.{List}
use Prim.Native.Nat.{ℕ, ◌*◌, ◌/◌}
use native.Mathlib.Omega.{arith}
use lib.ListN.{length}
use lib.Ieee.{Float}
use Rattle.number_floats.proofs.Unique.{one}
use Rattle.encoder_settings.specs.declared.EncoderSettings.{EncoderSettings}
use Rattle.encoder_settings.specs.declared.Attention.{Attention}
use Rattle.encoder_settings.specs.declared.Attention.TheVariants.{RowWise, Plain}
use Rattle.std.specs.Prelude.{Ok, Err}
use Rattle.encoder_settings.specs.Settings.{Checked, accepted, merge_area, full_tables, axis_tables, checked_of, checked_plain, checked_by}
use Rattle.encoder_steps.specs.Run.{Run, stopped, went}
use Rattle.encoder_run.specs.Stages.{forward_run}
use Rattle.encoder.specs.Forward.{encoded_of, out_of, scratch_of}
use Rattle.encoder_run.specs.Answer.{Encoded, encoded_by}
use Rattle.encoder.specs.Plain.{encoded_plain, out_plain, scratch_plain}
use Rattle.encoder.specs.Axes.{axes_run, encoded_axes, out_axes, scratch_axes}
use Rattle.encoder_settings.proofs.Accepted.{accepted-says}

-- a call that is accepted has o token vectors
count_of : (f : Attention) (s : EncoderSettings) (gh gw patches weights : ℕ) (tables : Bool) (out scratch : ℕ) (r : Run) (n : ℕ)
    → encoded_by (checked_by f s gh gw patches weights tables out scratch) r ≡ Ok n → n ≡ gh * gw / merge_area s.picture
count_of f s gh gw patches weights tables out scratch r n e = go (checked_by f s gh gw patches weights tables out scratch) refl r e
  where
    go : (k : Checked) → checked_by f s gh gw patches weights tables out scratch ≡ k → (r : Run) → encoded_by k r ≡ Ok n → n ≡ gh * gw / merge_area s.picture
    go (Ok a) d (went l) e = let h : n ≡ a.count = cc in h ∙ (accepted-says f s weights tables out scratch gh gw patches a.tokens a.count d).0.count-is
    go (Ok a) d stopped e = let z : ◌≡◌ {A = ℕ} 0 1 = cc in absurd (omega arith)
    go (Err r) d q e = let z : ◌≡◌ {A = ℕ} 0 1 = cc in absurd (omega arith)

module _ (s : EncoderSettings) (gh gw : ℕ) (w cos sin x : List Float) where
  -- the contract, as a type of an answer and of output and scratch at exit
  abbrev pub Forwards : List Float → List Float → Encoded → List Float → List Float → Type 0
  Forwards out scratch r out' scratch' =
      (r ≡ encoded_of s gh gw w cos sin x (length out) (length scratch)) × (out' ≡ out_of s gh gw w cos sin x (length scratch) out)
      × (scratch' ≡ scratch_of s gh gw w cos sin x (length out) scratch)

  pub forward-unique : (out scratch : List Float) (r q : Encoded) (a b c d : List Float)
      → Forwards out scratch r a c → Forwards out scratch q b d → (r ≡ q) × (a ≡ b) × (c ≡ d)
  forward-unique out scratch r q a b c d f g = (one _ f.0 g.0, one _ f.1 g.1, one _ f.2 g.2)

  pub count-is : (out scratch n : ℕ) → encoded_of s gh gw w cos sin x out scratch ≡ Ok n → n ≡ gh * gw / merge_area s.picture
  unfolding encoded_of checked_of checked_by
  count-is out scratch n e = count_of RowWise s gh gw (length x) (length w) (full_tables s (length cos) (length sin)) out scratch (forward_run s gh gw w cos sin x) n e

-- the same of the call by tables of rows and of columns
module _ (s : EncoderSettings) (gh gw : ℕ) (w row_cos row_sin column_cos column_sin x : List Float) where
  abbrev pub ForwardsAxes : List Float → List Float → Encoded → List Float → List Float → Type 0
  ForwardsAxes out scratch r out' scratch' =
      (r ≡ encoded_axes s gh gw w row_cos row_sin column_cos column_sin x (length out) (length scratch))
      × (out' ≡ out_axes s gh gw w row_cos row_sin column_cos column_sin x (length scratch) out)
      × (scratch' ≡ scratch_axes s gh gw w row_cos row_sin column_cos column_sin x (length out) scratch)

  pub forward-axes-unique : (out scratch : List Float) (r q : Encoded) (a b c d : List Float)
      → ForwardsAxes out scratch r a c → ForwardsAxes out scratch q b d → (r ≡ q) × (a ≡ b) × (c ≡ d)
  forward-axes-unique out scratch r q a b c d f g = (one _ f.0 g.0, one _ f.1 g.1, one _ f.2 g.2)

  pub axes-count-is : (out scratch n : ℕ) → encoded_axes s gh gw w row_cos row_sin column_cos column_sin x out scratch ≡ Ok n → n ≡ gh * gw / merge_area s.picture
  unfolding encoded_axes checked_of checked_by
  axes-count-is out scratch n e =
      count_of RowWise s gh gw (length x) (length w) (axis_tables s (length row_cos) (length row_sin) (length column_cos) (length column_sin)) out scratch (axes_run s gh gw w row_cos row_sin column_cos column_sin x) n e

-- and of the call with plain attention
module _ (s : EncoderSettings) (gh gw : ℕ) (w cos sin x : List Float) where
  abbrev pub ForwardsPlain : List Float → List Float → Encoded → List Float → List Float → Type 0
  ForwardsPlain out scratch r out' scratch' =
      (r ≡ encoded_plain s gh gw w cos sin x (length out) (length scratch)) × (out' ≡ out_plain s gh gw w cos sin x (length scratch) out)
      × (scratch' ≡ scratch_plain s gh gw w cos sin x (length out) scratch)

  pub forward-plain-unique : (out scratch : List Float) (r q : Encoded) (a b c d : List Float)
      → ForwardsPlain out scratch r a c → ForwardsPlain out scratch q b d → (r ≡ q) × (a ≡ b) × (c ≡ d)
  forward-plain-unique out scratch r q a b c d f g = (one _ f.0 g.0, one _ f.1 g.1, one _ f.2 g.2)

  pub plain-count-is : (out scratch n : ℕ) → encoded_plain s gh gw w cos sin x out scratch ≡ Ok n → n ≡ gh * gw / merge_area s.picture
  unfolding encoded_plain checked_plain checked_by
  plain-count-is out scratch n e = count_of Plain s gh gw (length x) (length w) (full_tables s (length cos) (length sin)) out scratch (forward_run s gh gw w cos sin x) n e
