-- `encoder_linear::few::cells` meets its contract. Assumes nothing.
use mathlib.Core.Path.{sym, ap, ◌∙◌}
use native.Mathlib.Omega.{arith}
use lib.ListN.{length}
use lib.Ieee.{nan}
use Rattle.buffers.specs.Rows.{tab}
use Rattle.buffers.proofs.Lists.{length-tab, tab-self}
use Rattle.encoder_linear.specs.inner.Lanes.{sum_from, cell_of}
use Rattle.encoder_linear.proofs.Pieces.{cell-step}
use Rattle.encoder_linear.proofs.few.cells.Goals as goal

pub loop-k-init : goal.loop-k-init
unfolding sum_from
loop-k-init c = (omega arith, sym (tab-self c.args.a 16 nan c.requires.cells))

pub add_cells-next-requires : goal.add_cells-next-requires
add_cells-next-requires c =
    record { cells = ap length c.loop-k.invariant.1 ∙ length-tab 16 _; tin = omega (arith, c.requires.tin, c.loop-k-test.true); win = omega (arith, c.requires.win, c.loop-k-test.true) }

pub loop-k-preserved : goal.loop-k-preserved
loop-k-preserved c = (
  omega (arith, c.loop-k-test.true),
  cell-step c.loop-k.k c.args.at c.args.nin c.args.a c.args.xt.now c.args.w.now c.loop-k.b c.add_cells-next.result c.loop-k.invariant.1 c.add_cells-next.ensures,
)

pub returns : goal.returns
returns c =
    c.loop-k.invariant.1 ∙ ap (λ k. tab 16 (cell_of k c.args.a c.args.xt.now c.args.w.now c.args.at c.args.nin)) (omega (arith, c.loop-k-test.false, c.loop-k.invariant.0))
