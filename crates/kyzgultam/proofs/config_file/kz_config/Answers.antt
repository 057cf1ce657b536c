-- `kyzgultam::config_file::kz_config` meets its contract: it reports the answer of `config`. Assumes nothing.
use Rattle.std.proofs.Common.{◌≡◌, refl, subst, List, ℕ}
use Rattle.config.specs.Config.{Config, Configured}
use Rattle.encoder_settings.specs.declared.EncoderSettings.{EncoderSettings}
use Rattle.kyzgultam.proofs.config_file.kz_config.Goals as goal

-- the answer at equal settings
lent-as : {s t : EncoderSettings} {l : List ℕ} {a : Configured} → s ≡ t → Config s l a → Config t l a
lent-as {s} {t} {l} {a} e k = subst (λ (x : EncoderSettings). Config x l a) e k

pub returns-in-Ok : goal.returns-in-Ok
returns-in-Ok c = (c.config.result, lent-as c.into.ensures c.config.ensures, rw (c.into-in-Ok.ensures, c.in-Ok.is) refl)

pub returns-in-Err : goal.returns-in-Err
returns-in-Err c = (c.config.result, lent-as c.into.ensures c.config.ensures, rw (c.from.ensures, c.into-in-Err.ensures, c.no_settings.ensures, c.in-Err.is) refl)
