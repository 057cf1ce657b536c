-- A call by its tables, full ones or those of rows and of columns, and by its attention, row-wise or plain. Assumes nothing.
use Rattle.std.specs.Prelude.{List, ℕ, ◌*◌, length, Float}
use Rattle.encoder_settings.specs.declared.EncoderSettings.{EncoderSettings}
use Rattle.encoder_settings.specs.declared.Attention.{Attention}
use Rattle.encoder_settings.specs.declared.Tables.{Tables}
use Rattle.encoder_settings.specs.Settings.{Checked, tables_fit, checked_by}
use Rattle.encoder_blocks.specs.Tables.{cos_by, sin_by}
use Rattle.encoder_steps.specs.Run.{Run}
use Rattle.encoder_run.specs.Stages.{sizes_of, forward_run}

-- what settings and lengths say
abbrev pub lengths_by : Attention → EncoderSettings → ℕ → ℕ → List Float → Tables → List Float → ℕ → ℕ → Checked
lengths_by f s gh gw w tables x out scratch = checked_by f s gh gw (length x) (length w) (tables_fit s tables) out scratch

-- and the run
abbrev pub run_by : EncoderSettings → ℕ → ℕ → List Float → Tables → List Float → Run
run_by s gh gw w tables x = let z = sizes_of s (gh * gw) gw in forward_run s gh gw w (cos_by z tables) (sin_by z tables) x
