-- `encoder_settings::settings::scale_allowed` meets its contract. Assumes nothing.
use mathlib.Core.Path.{refl}
use lib.Ieee.{div, lt, of_bits}
use Rattle.encoder_settings.specs.Settings.{scaling_allowed}
use Rattle.encoder_settings.proofs.settings.scale_allowed.Goals as goal

pub returns : goal.returns
unfolding lt scaling_allowed of_bits div
returns c = refl
