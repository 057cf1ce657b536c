-- What a forward call answers, and what it leaves in the output and in the scratch, for every input. Assumes nothing.
use Rattle.std.specs.Prelude.{◌≡◌, Bool, ◌&&◌, List, ℕ, ◌*◌, ◌/◌, eqb, leb, length, Float, Ok, Err}
use Rattle.picture_limits.specs.Refusal as R
use Rattle.picture_limits.specs.Refusal.{unless, reported}
use Rattle.picture_limits.specs.Places.{patch_floats}
use Rattle.picture_limits.specs.Shape.{grid_allowed}
use Rattle.encoder_settings.specs.declared.EncoderSettings.{EncoderSettings}
use Rattle.encoder_settings.specs.Settings.{Checked, allowed, merge_area, weight_floats, scratch_floats, full_tables, checked_of}
use Rattle.encoder_steps.specs.Run.{Run, ran}
use Rattle.encoder_run.specs.Stages.{forward_run}
use Rattle.encoder_run.specs.Answer.{Encoded, encoded_by, out_by, scratch_by}

-- the call, by its settings, grid, weights, tables and patches, and by the room of output and scratch
module _ (s : EncoderSettings) (gh gw : ℕ) (w cos sin x : List Float) where
  abbrev answer_of : ℕ → ℕ → Checked
  answer_of out scratch = checked_of s gh gw (length x) (length w) (full_tables s (length cos) (length sin)) out scratch

  unfoldable pub encoded_of : ℕ → ℕ → Encoded
  encoded_of out scratch = encoded_by (answer_of out scratch) (forward_run s gh gw w cos sin x)

  unfoldable pub out_of : ℕ → List Float → List Float
  out_of scratch old = out_by (answer_of (length old) scratch) (forward_run s gh gw w cos sin x) old

  unfoldable pub scratch_of : ℕ → List Float → List Float
  scratch_of out old = scratch_by (answer_of out (length old)) old

-- ---- the paper's number and count of an answer

abbrev pub number : Encoded → ℕ
number a = R.number_of a

abbrev pub tokens : Encoded → ℕ
tokens (Ok o) = o
tokens (Err r) = 0

-- and these for every call: the first number of 1, 6, 7, 9, 10, 5, 11, 12 that applies, else 0; by the lengths of patches and weights,
-- whether those of the tables are right, and the run
unfoldable pub number_of : EncoderSettings → ℕ → ℕ → ℕ → ℕ → Bool → ℕ → ℕ → Run → ℕ
number_of s gh gw patches weights tables out scratch run =
    let t = gh * gw in
    let o = t / merge_area s.picture in
    unless (allowed s) 1
    (unless (grid_allowed s.picture gh && grid_allowed s.picture gw) 6
    (unless (eqb patches (t * patch_floats s.picture.patch_size)) 7
    (unless (eqb weights (weight_floats s)) 9
    (unless tables 10
    (unless (leb (o * s.text_hidden_size) out) 5
    (unless (leb (scratch_floats s t o) scratch) 11
    (unless (ran run) 12
    0)))))))

abbrev pub forward_number : EncoderSettings → ℕ → ℕ → List Float → List Float → List Float → List Float → ℕ → ℕ → ℕ
forward_number s gh gw w cos sin x out scratch =
    number_of s gh gw (length x) (length w) (full_tables s (length cos) (length sin)) out scratch (forward_run s gh gw w cos sin x)

-- an answer with the number n, and with o token vectors where it is accepted
pub record Numbered (n o : ℕ) (a : Encoded) : Type 0 where
  pub number_is : number a ≡ n
  pub tokens-is : tokens a ≡ reported (number a) o
