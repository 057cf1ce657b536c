-- `encoder_blocks::block::feed` meets its contract. Assumes nothing.
use mathlib.Core.Path.{◌∙◌}
use Rattle.encoder_blocks.proofs.Halves.{feed-half}
use Rattle.encoder_blocks.proofs.block.feed.Goals as goal

pub shape_of-s : goal.shape_of-s
shape_of-s c =
    c.round_finite.auto.s ∙ c.add_finite-ok.auto.s ∙ c.linear_finite-ok-3.auto.s ∙ c.gate_finite-ok.auto.s
    ∙ c.linear_finite-ok-2.auto.s ∙ c.linear_finite-ok.auto.s ∙ c.norm_finite-ok.auto.s

pub returns : goal.returns
returns c =
    feed-half c.args.z c.args.w.now c.args.s.now c.requires
    c.norm_finite-ok.new.s c.linear_finite-ok.new.s c.linear_finite-ok-2.new.s c.gate_finite-ok.new.s c.linear_finite-ok-3.new.s c.add_finite-ok.new.s c.round_finite.new.s
    c.norm_finite-ok.result c.linear_finite-ok.result c.linear_finite-ok-2.result c.gate_finite-ok.result c.linear_finite-ok-3.result c.add_finite-ok.result c.round_finite.result
    (rw c.part.ensures at c.norm_finite-ok.ensures) c.linear_finite-ok.ensures c.linear_finite-ok-2.ensures c.gate_finite-ok.ensures c.linear_finite-ok-3.ensures c.add_finite-ok.ensures c.round_finite.ensures
