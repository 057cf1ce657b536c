-- `encoder_linear::weigh::wide` meets its contract: each lane is a column of its own. Assumes nothing.
use native.Mathlib.Omega.{arith}
use mathlib.Core.Path.{refl, ap, ◌∙◌}
use native.Mathlib.Nat.{suc-mul}
use native.Mathlib.Numerals.{add-one}
use Rattle.buffers.specs.Rows.{tab}
use Rattle.buffers.proofs.Lists.{fit, length-tab}
use Rattle.encoder_linear.specs.Linear.{sum_of, column_of}
use Rattle.encoder_linear.proofs.Columns.{begun_column, column-step}
use lib.ListN.{length}
use Rattle.encoder_linear.proofs.weigh.wide.Goals as goal

pub loop-j-init : goal.loop-j-init
unfolding sum_of tab
loop-j-init c = (omega arith, omega arith, refl)

pub add_products-next-requires : goal.add_products-next-requires
add_products-next-requires c = (ap length c.loop-j.invariant.2 ∙ length-tab 16 _, omega (arith, fit c.args.dim c.loop-j-test.true))

pub loop-j-preserved : goal.loop-j-preserved
loop-j-preserved c = (
  omega arith,
  rw (add-one, suc-mul) (omega arith),
  column-step c.loop-j.j c.args.dim c.args.o c.loop-j.a c.args.p.now c.args.v.now c.loop-j.b c.add_products-next.result c.loop-j.invariant.1 c.loop-j.invariant.2 c.add_products-next.ensures,
)

pub returns : goal.returns
unfolding column_of
returns c =
    c.loop-j.invariant.2 ∙ ap (λ n. tab 16 (begun_column n c.args.dim c.args.o c.args.p.now c.args.v.now)) (omega arith)
