-- `encoder_plain::room::places_fit` meets its contract. Assumes nothing.
use Rattle.encoder_plain.proofs.room.places_fit.Goals as goal

pub returns : goal.returns
returns c = rw (c.inside.ensures, c.inside-2.ensures, c.inside-3.ensures, c.aside.ensures, c.aside-2.ensures, c.aside-3.ensures, c.aside-4.ensures, c.aside-5.ensures, c.aside-6.ensures, c.aside-7.ensures)
