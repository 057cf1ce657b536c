-- `picture_resize::weighed_byte` meets its contract. Assumes nothing.
use Rattle.std.proofs.Common.{sym, ap, ◌∙◌, subst}
use lib.Ieee.{Float}
use Rattle.picture_resize.specs.Resize.{to_byte}
use Rattle.picture_resize.specs.inner.Weighed.{weighed, Held}
use Rattle.picture_resize.proofs.Ends.{holds}
use Rattle.picture_resize.proofs.weighed_byte.Goals as goal

pub near_byte-requires : goal.near_byte-requires
near_byte-requires c = subst (λ (z : Float). Held z) (sym c.held_of.ensures) (holds _).inside

pub returns : goal.returns
unfolding weighed
returns c = c.near_byte.ensures ∙ ap to_byte c.held_of.ensures ∙ (holds _).same
