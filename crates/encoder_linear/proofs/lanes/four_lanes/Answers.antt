-- `encoder_linear::lanes::four_lanes` meets its contract. Assumes nothing.
use mathlib.Core.Path.{sym, ap, ◌∙◌}
use native.Mathlib.Omega.{arith}
use lib.ListN.{length}
use lib.Ieee.{nan}
use Rattle.buffers.specs.Rows.{tab}
use Rattle.buffers.proofs.Lists.{length-tab, tab-self}
use Rattle.encoder_linear.specs.inner.Lanes.{sum_from, lane_of}
use Rattle.encoder_linear.proofs.Pieces.{lane-step}
use Rattle.encoder_linear.proofs.lanes.four_lanes.Goals as goal

pub loop-k-init : goal.loop-k-init
unfolding sum_from
loop-k-init c =
    (omega arith, sym (tab-self c.args.a 16 nan c.requires.first), sym (tab-self c.args.b 16 nan c.requires.second), sym (tab-self c.args.c 16 nan c.requires.third), sym (tab-self c.args.d 16 nan c.requires.fourth))

pub add_products-e2-requires : goal.add_products-e2-requires
add_products-e2-requires c = (ap length c.loop-k.invariant.1 ∙ length-tab 16 _, omega (arith, c.loop-k-test.true, c.requires.tin))

pub add_products-f2-requires : goal.add_products-f2-requires
add_products-f2-requires c = (ap length c.loop-k.invariant.2 ∙ length-tab 16 _, omega (arith, c.loop-k-test.true, c.requires.tin))

pub add_products-g2-requires : goal.add_products-g2-requires
add_products-g2-requires c = (ap length c.loop-k.invariant.3 ∙ length-tab 16 _, omega (arith, c.loop-k-test.true, c.requires.tin))

pub add_products-h2-requires : goal.add_products-h2-requires
add_products-h2-requires c = (ap length c.loop-k.invariant.4 ∙ length-tab 16 _, omega (arith, c.loop-k-test.true, c.requires.tin))

pub loop-k-preserved : goal.loop-k-preserved
loop-k-preserved c = (
  omega (arith, c.loop-k-test.true),
  lane-step c.loop-k.k c.args.a c.args.xt.now c.args.w.now c.loop-k.e c.add_products-e2.result c.loop-k.invariant.1 c.add_products-e2.ensures,
  lane-step c.loop-k.k c.args.b c.args.xt.now c.args.v.now c.loop-k.f c.add_products-f2.result c.loop-k.invariant.2 c.add_products-f2.ensures,
  lane-step c.loop-k.k c.args.c c.args.xt.now c.args.u.now c.loop-k.g c.add_products-g2.result c.loop-k.invariant.3 c.add_products-g2.ensures,
  lane-step c.loop-k.k c.args.d c.args.xt.now c.args.p.now c.loop-k.h c.add_products-h2.result c.loop-k.invariant.4 c.add_products-h2.ensures,
)

pub returns : goal.returns
returns c = (
  c.loop-k.invariant.1 ∙ ap (λ k. tab 16 (lane_of k c.args.a c.args.xt.now c.args.w.now)) (omega arith),
  c.loop-k.invariant.2 ∙ ap (λ k. tab 16 (lane_of k c.args.b c.args.xt.now c.args.v.now)) (omega arith),
  c.loop-k.invariant.3 ∙ ap (λ k. tab 16 (lane_of k c.args.c c.args.xt.now c.args.u.now)) (omega arith),
  c.loop-k.invariant.4 ∙ ap (λ k. tab 16 (lane_of k c.args.d c.args.xt.now c.args.p.now)) (omega arith),
)
