-- What the C face reports of the calls on pools, on config.json and on safetensors files. Assumes nothing.
use Rattle.std.specs.Prelude.{◌≡◌, List, ℕ, Result}
use Rattle.encoder_settings.specs.declared.EncoderSettings.{EncoderSettings}
use Rattle.config.specs.Config as Conf
use Rattle.config.specs.Config.{Config, Configured}
use Rattle.pool.specs.Pool.{Pooled}
use Rattle.picture_limits.specs.declared.Refusal.{Refusal}
use Rattle.pool_books.specs.declared.Place.{Place}
use Rattle.pool.specs.Pool as Pl
use Rattle.pool_books.specs.Lookup.{found_number, found_start, found_len}
use Rattle.weights.specs.File as W
use Rattle.weights.specs.File.{Weighing, Weighed}
use Rattle.face_settings.specs.Settings.{outer_encoder}
use Rattle.kyzgultam.specs.declared.config_file.ConfigReport.{ConfigReport}
use Rattle.kyzgultam.specs.declared.pools.PoolReport.{PoolReport}
use Rattle.kyzgultam.specs.declared.pools.PoolPlace.{PoolPlace}
use Rattle.kyzgultam.specs.declared.weights_file.WeightsReport.{WeightsReport}

-- the paper's number, and the pool after the call
abbrev pub pool_report : Pooled → PoolReport
pool_report a = record { number = Pl.number a.outcome; pool = a.pool }

abbrev pub pool_place : Result Place Refusal → PoolPlace
pool_place a = record { number = found_number a; start = found_start a; len = found_len a }

abbrev pub config_report : Configured → ConfigReport
config_report a = record { number = Conf.number_of a; place = Conf.place_of a; settings = outer_encoder (Conf.settings_of a) }

-- r reports the answer for a text s; there is one answer alone
abbrev pub ConfigReports : EncoderSettings → List ℕ → ConfigReport → Type 0
ConfigReports lent s r = (a : Configured) × Config lent s a × (r ≡ config_report a)

abbrev pub weights_report : Weighed → WeightsReport
weights_report a = record { number = W.number_of a; floats = W.floats_of a; tensor = W.tensor_of a; place = W.place_at a }

-- r reports the answer for a file, which leaves `after` of a slice `out`; there is one answer alone
abbrev pub WeightsReports : EncoderSettings → List ℕ → List ℕ → List ℕ → WeightsReport → Type 0
WeightsReports s file out after r = (a : Weighed) × Weighing s file out after a × (r ≡ weights_report a)
