-- `encoder::forward::forward_plain` meets its contract. Assumes nothing.
use lib.ListN.{length}
use Rattle.encoder_settings.specs.Settings.{checked_plain, checked_by}
use Rattle.encoder.specs.Plain.{encoded_plain, out_plain, scratch_plain}
use Rattle.encoder.proofs.Numbers.{plain-numbered}
use Rattle.encoder.proofs.forward.forward_plain.Goals as goal

pub returns : goal.returns
unfolding encoded_plain out_plain scratch_plain checked_plain checked_by
returns c = record {
  answer = c.forward_by.ensures.answer;
  output = c.forward_by.ensures.output;
  work = c.forward_by.ensures.work;
  numbers = plain-numbered c.args.s c.args.grid_h c.args.grid_w c.args.weights.now c.args.rope_cos.now c.args.rope_sin.now c.args.patches.now (length c.args.out.now) (length c.args.scratch.now) _ c.forward_by.ensures.answer;
}
