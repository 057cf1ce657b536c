-- `encoder_blocks::block::pixtral_block_forward` meets its contract. Assumes nothing.
use mathlib.Core.Path.{sym, ap, ◌∙◌}
use Rattle.encoder_steps.specs.Run.{then_run}
use Rattle.encoder_steps.proofs.Writes.{answer-then}
use Rattle.encoder_blocks.specs.Block.{feed_run, block_run}
use Rattle.encoder_blocks.specs.inner.Live.{h_at}
use Rattle.encoder_blocks.proofs.block.pixtral_block_forward.Goals as goal

pub returns : goal.returns
unfolding block_run
returns c =
    answer-then c.attn-a.result c.feed-b.result (h_at c.args.z c.attn-a.new.s) (h_at c.args.z c.feed-b.new.s) (feed_run c.args.z c.args.w.now) (sym c.feed-b.ensures) ∙ ap (λ r. then_run r (feed_run c.args.z c.args.w.now)) c.attn-a.ensures
