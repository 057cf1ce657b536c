-- `names::layer_is` meets its contract. Assumes nothing.
use mathlib.Core.Path.{refl}
use Rattle.tensor_header.proofs.names.layer_is.Goals as goal

pub returns-in-Some : goal.returns-in-Some
returns-in-Some c = rw (c.part_is.ensures, ← c.behind_number.ensures, c.in-Some.is) refl

pub returns-in-None : goal.returns-in-None
returns-in-None c = rw (← c.behind_number.ensures, c.in-None.is) refl
