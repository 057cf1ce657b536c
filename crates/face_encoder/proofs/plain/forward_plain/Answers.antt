-- `face_encoder::plain::forward_plain` meets its contract: the answer's number and count, and what the call left in output and scratch. Assumes nothing.
use mathlib.Core.Path.{ap, ◌∙◌}
use lib.ListN.{length}
use Rattle.encoder_settings.specs.declared.EncoderSettings.{EncoderSettings}
use Rattle.encoder.specs.Plain.{encoded_plain, out_plain, scratch_plain}
use Rattle.face_encoder.specs.Reports.{forward_report}
use Rattle.face_encoder.proofs.plain.forward_plain.Goals as goal

pub returns : goal.returns
returns c =
    let e = c.into.ensures in record {
      answer = c.from.ensures ∙ ap forward_report (c.forward_plain-found.ensures.answer ∙ ap (λ (s : EncoderSettings). encoded_plain s c.args.grid_h c.args.grid_w c.args.weights.now c.args.rope_cos.now c.args.rope_sin.now c.args.patches.now (length c.args.out.now) (length c.args.scratch.now)) e);
      output = c.forward_plain-found.ensures.output ∙ ap (λ (s : EncoderSettings). out_plain s c.args.grid_h c.args.grid_w c.args.weights.now c.args.rope_cos.now c.args.rope_sin.now c.args.patches.now (length c.args.scratch.now) c.args.out.now) e;
      work = c.forward_plain-found.ensures.work ∙ ap (λ (s : EncoderSettings). scratch_plain s c.args.grid_h c.args.grid_w c.args.weights.now c.args.rope_cos.now c.args.rope_sin.now c.args.patches.now (length c.args.out.now) c.args.scratch.now) e;
    }
