-- `encoder_plain::plain::one_head` meets its contract. Assumes nothing.
use mathlib.Core.Path.{ap, ◌∙◌}
use native.Mathlib.Omega.{arith}
use Rattle.encoder_kernels.specs.Kernels.{all_finite}
use Rattle.encoder_plain.proofs.Loops.{head-run}
use Rattle.encoder_plain.proofs.plain.one_head.Goals as goal

pub score_rows-requires : goal.score_rows-requires
score_rows-requires c = (c.requires.0.keys, c.requires.1)

pub softmax_rows-requires : goal.softmax_rows-requires
softmax_rows-requires c = omega (arith, c.requires.0.keys.scores_in, c.score_rows.auto.s)

pub sum_rows-requires : goal.sum_rows-requires
sum_rows-requires c = (rw (c.softmax_rows.auto.s ∙ c.score_rows.auto.s) c.requires.0.values, c.requires.1)

pub shape_of-s : goal.shape_of-s
shape_of-s c = c.sum_rows.auto.s ∙ c.softmax_rows.auto.s ∙ c.score_rows.auto.s

pub returns : goal.returns
returns c =
    let r = head-run c.args.s.now c.args.p.q c.args.p.k c.args.p.v c.args.p.row c.args.p.out c.args.p.t c.args.p.heads c.args.p.hd c.args.h c.args.p.scaling c.requires.0 c.requires.1 c.score_rows.new.s c.softmax_rows.new.s c.sum_rows.new.s c.score_rows.ensures c.softmax_rows.ensures c.sum_rows.ensures in record {
      value = c.finite-ok.ensures ∙ ap all_finite (c.part.ensures ∙ r.0);
      s_after = r.1;
    }
