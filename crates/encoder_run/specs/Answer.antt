-- What a call answers and leaves, by what settings and lengths say and by the run. Assumes nothing.
use Rattle.std.specs.Prelude.{List, ℕ, Float, Result, Ok, Err}
use Rattle.buffers.specs.Region.{over, cleared}
use Rattle.picture_limits.specs.declared.Refusal.{Refusal}
use Rattle.picture_limits.specs.declared.Refusal.TheVariants.{NotFinite}
use Rattle.encoder_settings.specs.Settings.{Checked}
use Rattle.encoder_steps.specs.Run.{Run, stopped, went}

-- the count of token vectors, or a refusal
abbrev pub Encoded : Type 0
Encoded = Result ℕ Refusal

-- what settings and lengths say, and 12 where the run stopped
abbrev pub encoded_by : Checked → Run → Encoded
encoded_by (Err r) run = Err r
encoded_by (Ok a) stopped = Err NotFinite
encoded_by (Ok a) (went l) = Ok a.count

-- the token vectors over the front of what was there; after a refusal as it was
abbrev pub out_by : Checked → Run → List Float → List Float
out_by (Err r) run old = old
out_by (Ok a) stopped old = old
out_by (Ok a) (went l) old = over l old

-- after 1 to 11 as it was; after 0 and 12 all of it is +0
abbrev pub scratch_by : Checked → List Float → List Float
scratch_by (Err r) old = old
scratch_by (Ok a) old = cleared old
