-- `encoder_linear::lanes::two_lanes` meets its contract. Assumes nothing.
use mathlib.Core.Path.{sym, ap, ◌∙◌}
use native.Mathlib.Omega.{arith}
use lib.ListN.{length}
use lib.Ieee.{nan}
use Rattle.buffers.specs.Rows.{tab}
use Rattle.buffers.proofs.Lists.{length-tab, tab-self}
use Rattle.encoder_linear.specs.inner.Lanes.{sum_from, lane_of}
use Rattle.encoder_linear.proofs.Pieces.{lane-step}
use Rattle.encoder_linear.proofs.lanes.two_lanes.Goals as goal

pub loop-k-init : goal.loop-k-init
unfolding sum_from
loop-k-init c = (omega arith, sym (tab-self c.args.a 16 nan c.requires.first), sym (tab-self c.args.b 16 nan c.requires.second))

pub add_products-next-requires : goal.add_products-next-requires
add_products-next-requires c = (ap length c.loop-k.invariant.1 ∙ length-tab 16 _, omega (arith, c.loop-k-test.true, c.requires.tin))

pub add_products-other-requires : goal.add_products-other-requires
add_products-other-requires c = (ap length c.loop-k.invariant.2 ∙ length-tab 16 _, omega (arith, c.loop-k-test.true, c.requires.tin))

pub loop-k-preserved : goal.loop-k-preserved
loop-k-preserved c = (
  omega (arith, c.loop-k-test.true),
  lane-step c.loop-k.k c.args.a c.args.xt.now c.args.w.now c.loop-k.c c.add_products-next.result c.loop-k.invariant.1 c.add_products-next.ensures,
  lane-step c.loop-k.k c.args.b c.args.xt.now c.args.v.now c.loop-k.d c.add_products-other.result c.loop-k.invariant.2 c.add_products-other.ensures,
)

pub returns : goal.returns
returns c = (
  c.loop-k.invariant.1 ∙ ap (λ k. tab 16 (lane_of k c.args.a c.args.xt.now c.args.w.now)) (omega arith),
  c.loop-k.invariant.2 ∙ ap (λ k. tab 16 (lane_of k c.args.b c.args.xt.now c.args.v.now)) (omega arith),
)
