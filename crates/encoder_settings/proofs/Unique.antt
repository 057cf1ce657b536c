-- Any two results that satisfy the contract of a public function are equal. Assumes nothing.
use mathlib.Core.Path.{◌≡◌}
use Prim.Native.Nat.{ℕ}
use Rattle.number_floats.proofs.Unique.{one}
use Rattle.encoder_settings.specs.declared.EncoderSettings.{EncoderSettings}
use Rattle.encoder_settings.specs.declared.Attention.{Attention}
use Rattle.encoder_settings.specs.declared.TableLengths.{TableLengths}
use Rattle.encoder_settings.specs.declared.Tables.{Tables}
use Rattle.std.specs.Prelude.{Result}
use Rattle.picture_limits.specs.declared.Refusal.{Refusal}
use Rattle.encoder_settings.specs.declared.lengths.Lengths.{Lengths}
use Rattle.encoder_settings.specs.Settings.{Checked, lengths_fit, lengths_of, checked_by}
use Rattle.encoder_settings.specs.Lengths.{needed_of}

pub checked-unique : (s : EncoderSettings) (f : Attention) (gh gw patches weights : ℕ) (tables : TableLengths) (out scratch : ℕ) (a b : Checked)
    → a ≡ checked_by f s gh gw patches weights (lengths_fit s tables) out scratch
    → b ≡ checked_by f s gh gw patches weights (lengths_fit s tables) out scratch → a ≡ b
checked-unique s f gh gw patches weights tables out scratch a b = one _

pub needed-unique : (s : EncoderSettings) (gh gw : ℕ) (a b : Result Lengths Refusal) → a ≡ needed_of s gh gw → b ≡ needed_of s gh gw → a ≡ b
needed-unique s gh gw a b = one _

pub table-lengths-unique : (t : Tables) (a b : TableLengths) → a ≡ lengths_of t → b ≡ lengths_of t → a ≡ b
table-lengths-unique t a b = one _
