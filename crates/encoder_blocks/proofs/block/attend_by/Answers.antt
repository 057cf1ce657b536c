-- `encoder_blocks::block::attend_by` meets its contract. Assumes nothing.
use Rattle.encoder_blocks.proofs.Halves.{row-wise, plain-wise}
use Rattle.encoder_blocks.proofs.block.attend_by.Goals as goal

pub shape_of-s-in-RowWise : goal.shape_of-s-in-RowWise
shape_of-s-in-RowWise c = c.attend.auto.s

pub returns-in-RowWise : goal.returns-in-RowWise
returns-in-RowWise c = row-wise c.args.z c.args.s.now c.args.row c.requires.attend_at (rw c.in-RowWise.is at c.requires.score_row) (c.attend.ensures.value, c.attend.ensures.s_after)

pub shape_of-s-in-Plain : goal.shape_of-s-in-Plain
shape_of-s-in-Plain c = c.attend_plain.auto.s

pub returns-in-Plain : goal.returns-in-Plain
returns-in-Plain c = plain-wise c.args.z c.args.s.now c.args.row c.requires.attend_at (rw c.in-Plain.is at c.requires.score_row) (c.attend_plain.ensures.value, c.attend_plain.ensures.s_after)
