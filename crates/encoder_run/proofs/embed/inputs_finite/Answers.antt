-- `encoder_run::embed::inputs_finite` meets its contract. Assumes nothing.
use Rattle.encoder_steps.specs.Run.{stages_finite}
use Rattle.encoder_run.proofs.Expands.{inputs-axes}
use Rattle.encoder_run.proofs.embed.inputs_finite.Goals as goal

pub returns-in-Full : goal.returns-in-Full
unfolding stages_finite
returns-in-Full c = rw (c.finite-a.ensures, c.finite-b.ensures, c.finite-c.ensures, c.finite-d.ensures, c.in-Full.is)

pub returns-in-Axes : goal.returns-in-Axes
returns-in-Axes c =
    rw (c.finite-a.ensures, c.finite-b.ensures, c.finite-c-in-Axes.ensures, c.finite-d-in-Axes.ensures, c.finite-g.ensures, c.finite-h.ensures, c.in-Axes.is)
    (inputs-axes c.args.z c.args.x.now c.args.w.now c.in-Axes.row_cos.now c.in-Axes.row_sin.now c.in-Axes.column_cos.now c.in-Axes.column_sin.now (rw c.in-Axes.is at c.requires))
