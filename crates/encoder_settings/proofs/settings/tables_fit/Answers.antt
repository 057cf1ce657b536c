-- `encoder_settings::settings::tables_fit` meets its contract. Assumes nothing.
use Rattle.encoder_settings.proofs.settings.tables_fit.Goals as goal

pub returns-in-Full : goal.returns-in-Full
returns-in-Full c = rw (c.in-Full.is, c.tables_needed-n.ensures)

pub returns-in-Axes : goal.returns-in-Axes
returns-in-Axes c = rw (c.in-Axes.is, c.axes_needed-n.ensures)
