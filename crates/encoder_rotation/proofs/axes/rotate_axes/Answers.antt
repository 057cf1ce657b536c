-- `encoder_rotation::axes::rotate_axes` meets its contract. Assumes nothing.
use mathlib.Core.Path.{sym, ◌∙◌}
use Rattle.encoder_rotation.proofs.Rooms.{axes-says, axes-in, quarters}
use Rattle.encoder_rotation.proofs.axes.rotate_axes.Goals as goal

pub rotate_tokens_axes-requires : goal.rotate_tokens_axes-requires
rotate_tokens_axes-requires c = axes-in (axes-says (sym c.axes_fit.ensures ∙ c.if-axes_fit.true))

pub returns-then-axes_fit : goal.returns-then-axes_fit
returns-then-axes_fit c =
    let e = sym c.axes_fit.ensures ∙ c.if-axes_fit.true in
    rw e (rw (quarters (axes-says e)) at c.rotate_tokens_axes.ensures)

pub returns-else-axes_fit : goal.returns-else-axes_fit
returns-else-axes_fit c = rw (← c.axes_fit.ensures, c.if-axes_fit.false)
