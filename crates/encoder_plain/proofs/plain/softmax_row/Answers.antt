-- `encoder_plain::plain::softmax_row` meets its contract. Assumes nothing.
use mathlib.Core.Path.{ap, ◌∙◌}
use native.Mathlib.Omega.{arith}
use Rattle.buffers.proofs.Rooms.{written}
use Rattle.encoder_softmax.specs.Softmax.{max_of}
use Rattle.encoder_plain.proofs.Loops.{softmax-run}
use Rattle.encoder_plain.proofs.plain.softmax_row.Goals as goal

pub returns : goal.returns
returns c =
    softmax-run c.args.s.now c.exp_sum-sum.new.s c.scale_row.new.s c.args.row c.args.n c.row_max-max_val.result c.exp_sum-sum.result c.inverse-inv_sum.result c.requires
    (c.row_max-max_val.ensures ∙ ap max_of c.part.ensures) c.exp_sum-sum.ensures.s_after c.exp_sum-sum.ensures.value c.inverse-inv_sum.ensures
    (written c.exp_sum-sum.new.s c.scale_row.new.s _ c.args.row c.args.n (omega (arith, c.exp_sum-sum.auto.s, c.requires)) c.scale_row.ensures)
