-- `face_encoder::axes::forward_axes` meets its contract: the answer's number and count, and what the call left in output and scratch. Assumes nothing.
use mathlib.Core.Path.{ap, ◌∙◌}
use lib.ListN.{length}
use Rattle.encoder_settings.specs.declared.EncoderSettings.{EncoderSettings}
use Rattle.encoder.specs.Axes.{encoded_axes, out_axes, scratch_axes}
use Rattle.face_encoder.specs.Reports.{forward_report}
use Rattle.face_encoder.proofs.axes.forward_axes.Goals as goal

pub returns : goal.returns
returns c =
    let e = c.into.ensures in record {
      answer = c.from.ensures ∙ ap forward_report (c.forward_axes-found.ensures.answer ∙ ap (λ (s : EncoderSettings). encoded_axes s c.args.grid_h c.args.grid_w c.args.weights.now c.args.row_cos.now c.args.row_sin.now c.args.column_cos.now c.args.column_sin.now c.args.patches.now (length c.args.out.now) (length c.args.scratch.now)) e);
      output = c.forward_axes-found.ensures.output ∙ ap (λ (s : EncoderSettings). out_axes s c.args.grid_h c.args.grid_w c.args.weights.now c.args.row_cos.now c.args.row_sin.now c.args.column_cos.now c.args.column_sin.now c.args.patches.now (length c.args.scratch.now) c.args.out.now) e;
      work = c.forward_axes-found.ensures.work ∙ ap (λ (s : EncoderSettings). scratch_axes s c.args.grid_h c.args.grid_w c.args.weights.now c.args.row_cos.now c.args.row_sin.now c.args.column_cos.now c.args.column_sin.now c.args.patches.now (length c.args.out.now) c.args.scratch.now) e;
    }
