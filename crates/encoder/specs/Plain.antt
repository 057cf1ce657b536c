-- Forward with plain attention (2026-11), which is in the source's form: the full matrix of scores for each head. Its run is
-- forward's, since the two attentions are proved equal (`encoder_plain/proofs/Same.antt`); it serves up to 64 tokens, above which it
-- is 22, directly after 7, and its scratch has t² − t floats more. Assumes nothing.
use Rattle.std.specs.Prelude.{◌≡◌, Bool, ◌&&◌, List, ℕ, ◌*◌, ◌/◌, leb, eqb, length, Float}
use Rattle.picture_limits.specs.Refusal.{unless}
use Rattle.picture_limits.specs.Places.{patch_floats}
use Rattle.picture_limits.specs.Shape.{grid_allowed}
use Rattle.encoder_settings.specs.declared.EncoderSettings.{EncoderSettings}
use Rattle.encoder_settings.specs.Settings.{Checked, allowed, merge_area, weight_floats, plain_floats, full_tables, checked_plain}
use Rattle.encoder_steps.specs.Run.{ran}
use Rattle.encoder_run.specs.Stages.{forward_run}
use Rattle.encoder.specs.Forward.{number, encoded_of, out_of, scratch_of}
use Rattle.encoder_run.specs.Answer.{Encoded, encoded_by, out_by, scratch_by}

module _ (s : EncoderSettings) (gh gw : ℕ) (w cos sin x : List Float) where
  abbrev answer_of : ℕ → ℕ → Checked
  answer_of out scratch = checked_plain s gh gw (length x) (length w) (full_tables s (length cos) (length sin)) out scratch

  unfoldable pub encoded_plain : ℕ → ℕ → Encoded
  encoded_plain out scratch = encoded_by (answer_of out scratch) (forward_run s gh gw w cos sin x)

  unfoldable pub out_plain : ℕ → List Float → List Float
  out_plain scratch old = out_by (answer_of (length old) scratch) (forward_run s gh gw w cos sin x) old

  unfoldable pub scratch_plain : ℕ → List Float → List Float
  scratch_plain out old = scratch_by (answer_of out (length old)) old

  -- the paper's number of the call: the first of 1, 6, 7, 22, 9, 10, 5, 11, 12 that applies, else 0
  unfoldable pub plain_number : ℕ → ℕ → ℕ
  plain_number out scratch =
      let t = gh * gw in
      let o = t / merge_area s.picture in
      unless (allowed s) 1
      (unless (grid_allowed s.picture gh && grid_allowed s.picture gw) 6
      (unless (eqb (length x) (t * patch_floats s.picture.patch_size)) 7
      (unless (leb t 64) 22
      (unless (eqb (length w) (weight_floats s)) 9
      (unless (full_tables s (length cos) (length sin)) 10
      (unless (leb (o * s.text_hidden_size) out) 5
      (unless (leb (plain_floats s t o) scratch) 11
      (unless (ran (forward_run s gh gw w cos sin x)) 12
      0))))))))

-- wherever neither 22 nor its own 11 comes first, forward with the same buffers answers the same: it accepts the same calls with the
-- same bits, and 12 falls on the same calls
abbrev pub PlainAgrees : Type 0
PlainAgrees =
    (s : EncoderSettings) (gh gw : ℕ) (w cos sin x out scratch : List Float)
    → (number (encoded_plain s gh gw w cos sin x (length out) (length scratch)) ≡ 22 → ⊥)
    → (number (encoded_plain s gh gw w cos sin x (length out) (length scratch)) ≡ 11 → ⊥)
    → (encoded_plain s gh gw w cos sin x (length out) (length scratch) ≡ encoded_of s gh gw w cos sin x (length out) (length scratch))
    × (out_plain s gh gw w cos sin x (length scratch) out ≡ out_of s gh gw w cos sin x (length scratch) out)
    × (scratch_plain s gh gw w cos sin x (length out) scratch ≡ scratch_of s gh gw w cos sin x (length out) scratch)
