-- `encoder::forward::forward` meets its contract. Assumes nothing.
use lib.ListN.{length}
use Rattle.encoder_settings.specs.Settings.{full_tables, checked_of, checked_by}
use Rattle.encoder_run.specs.Stages.{forward_run}
use Rattle.encoder.specs.Forward.{encoded_of, out_of, scratch_of}
use Rattle.encoder.proofs.Numbers.{numbered}
use Rattle.encoder.proofs.forward.forward.Goals as goal

pub returns : goal.returns
unfolding encoded_of out_of scratch_of checked_of checked_by
returns c = record {
  answer = c.forward_by.ensures.answer;
  output = c.forward_by.ensures.output;
  work = c.forward_by.ensures.work;
  numbers = numbered c.args.s c.args.grid_h c.args.grid_w (length c.args.patches.now) (length c.args.weights.now) (full_tables c.args.s (length c.args.rope_cos.now) (length c.args.rope_sin.now))
      (length c.args.out.now) (length c.args.scratch.now) (forward_run c.args.s c.args.grid_h c.args.grid_w c.args.weights.now c.args.rope_cos.now c.args.rope_sin.now c.args.patches.now) _ c.forward_by.ensures.answer;
}
