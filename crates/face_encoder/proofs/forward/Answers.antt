-- `face_encoder::forward` meets its contract: the answer's number and count, and what the call left in output and scratch. Assumes nothing.
use mathlib.Core.Path.{ap, ◌∙◌}
use lib.ListN.{length}
use Rattle.encoder_settings.specs.declared.EncoderSettings.{EncoderSettings}
use Rattle.encoder.specs.Forward.{encoded_of, out_of, scratch_of}
use Rattle.face_encoder.specs.Reports.{forward_report}
use Rattle.face_encoder.proofs.forward.Goals as goal

pub returns : goal.returns
returns c =
    let e = c.into.ensures in record {
      answer = c.from.ensures ∙ ap forward_report (c.forward-found.ensures.answer ∙ ap (λ (s : EncoderSettings). encoded_of s c.args.grid_h c.args.grid_w c.args.weights.now c.args.rope_cos.now c.args.rope_sin.now c.args.patches.now (length c.args.out.now) (length c.args.scratch.now)) e);
      output = c.forward-found.ensures.output ∙ ap (λ (s : EncoderSettings). out_of s c.args.grid_h c.args.grid_w c.args.weights.now c.args.rope_cos.now c.args.rope_sin.now c.args.patches.now (length c.args.scratch.now) c.args.out.now) e;
      work = c.forward-found.ensures.work ∙ ap (λ (s : EncoderSettings). scratch_of s c.args.grid_h c.args.grid_w c.args.weights.now c.args.rope_cos.now c.args.rope_sin.now c.args.patches.now (length c.args.out.now) c.args.scratch.now) e;
    }
