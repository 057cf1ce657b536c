-- `encoder_kernels::norm::rms_norm` meets its contract. Assumes nothing.
use mathlib.Core.Path.{sym, ◌∙◌}
use Rattle.encoder_kernels.proofs.Rooms.{norm-says}
use Rattle.encoder_kernels.proofs.norm.rms_norm.Goals as goal

pub norm_rows-requires : goal.norm_rows-requires
norm_rows-requires c = norm-says (sym c.norm_fits.ensures ∙ c.if-norm_fits.true)

pub returns-then-norm_fits : goal.returns-then-norm_fits
returns-then-norm_fits c = rw (← c.norm_fits.ensures, c.if-norm_fits.true) c.norm_rows.ensures

pub returns-else-norm_fits : goal.returns-else-norm_fits
returns-else-norm_fits c = rw (← c.norm_fits.ensures, c.if-norm_fits.false)
