-- `encoder_rotation::rotate::rotate` meets its contract. Assumes nothing.
use mathlib.Core.Path.{sym, ◌∙◌}
use Rattle.encoder_rotation.proofs.Rooms.{rotate-says}
use Rattle.encoder_rotation.proofs.rotate.rotate.Goals as goal

pub rotate_tokens-requires : goal.rotate_tokens-requires
rotate_tokens-requires c = rotate-says (sym c.rotate_fits.ensures ∙ c.if-rotate_fits.true)

pub returns-then-rotate_fits : goal.returns-then-rotate_fits
returns-then-rotate_fits c = rw (← c.rotate_fits.ensures, c.if-rotate_fits.true) c.rotate_tokens.ensures

pub returns-else-rotate_fits : goal.returns-else-rotate_fits
returns-else-rotate_fits c = rw (← c.rotate_fits.ensures, c.if-rotate_fits.false)
