-- `encoder::forward::forward_axes` meets its contract. Assumes nothing.
use lib.ListN.{length}
use Rattle.encoder_settings.specs.Settings.{axis_tables, checked_of, checked_by}
use Rattle.encoder.specs.Axes.{axes_run}
use Rattle.encoder.specs.Axes.{encoded_axes, out_axes, scratch_axes}
use Rattle.encoder.proofs.Numbers.{numbered}
use Rattle.encoder.proofs.forward.forward_axes.Goals as goal

pub returns : goal.returns
unfolding encoded_axes out_axes scratch_axes checked_of checked_by
returns c = record {
  answer = c.forward_by.ensures.answer;
  output = c.forward_by.ensures.output;
  work = c.forward_by.ensures.work;
  numbers = numbered c.args.s c.args.grid_h c.args.grid_w (length c.args.patches.now) (length c.args.weights.now) (axis_tables c.args.s (length c.args.row_cos.now) (length c.args.row_sin.now) (length c.args.column_cos.now) (length c.args.column_sin.now))
      (length c.args.out.now) (length c.args.scratch.now) (axes_run c.args.s c.args.grid_h c.args.grid_w c.args.weights.now c.args.row_cos.now c.args.row_sin.now c.args.column_cos.now c.args.column_sin.now c.args.patches.now) _ c.forward_by.ensures.answer;
}
