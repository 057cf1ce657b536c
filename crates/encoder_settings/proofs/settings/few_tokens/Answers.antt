-- `encoder_settings::settings::few_tokens` meets its contract. Assumes nothing.
use Rattle.encoder_settings.proofs.settings.few_tokens.Goals as goal

pub returns-in-RowWise : goal.returns-in-RowWise
returns-in-RowWise c = rw c.in-RowWise.is

pub returns-in-Plain : goal.returns-in-Plain
returns-in-Plain c = rw c.in-Plain.is
