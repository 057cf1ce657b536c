-- `encoder_linear::bias::add_rows` meets its contract. Assumes nothing.
use mathlib.Core.Path.{ap, ◌∙◌}
use Prim.Native.Nat.{◌*◌}
use native.Mathlib.Nat.{suc-mul}
use native.Mathlib.Numerals.{add-one}
use native.Mathlib.Omega.{arith}
use borrow.Author.Rules.{rules}
use Rattle.buffers.specs.Rows.{rows}
use Rattle.buffers.specs.Region.{region, put}
use Rattle.buffers.specs.Each.{each_row}
use Rattle.buffers.proofs.Lists.{fit}
use Rattle.encoder_linear.specs.Linear.{biased}
use Rattle.encoder_linear.proofs.Biases.{plus, plus_turn}
use Rattle.encoder_linear.proofs.bias.add_rows.Goals as goal

pub loop-r-init : goal.loop-r-init
unfolding put rows
loop-r-init c = search rules

pub add_row-requires : goal.add_row-requires
add_row-requires c = omega (arith, fit c.args.d c.loop-r-test.true, c.requires.yin, c.requires.long, c.loop-r.invariant.1, c.loop-r.invariant.2)

pub loop-r-preserved : goal.loop-r-preserved
loop-r-preserved c =
    let f = fit c.args.d c.loop-r-test.true in (
      omega arith,
      rw (add-one, suc-mul) (omega arith),
      c.add_row.auto.s ∙ c.loop-r.invariant.2,
      plus_turn c.args.s.now c.loop-r.s c.add_row.new.s c.args.b.now c.args.y c.args.n c.args.d c.loop-r.r c.loop-r.at c.requires.long (omega arith) c.loop-r.invariant.1 c.loop-r.invariant.3 c.add_row.ensures,
    )

pub shape_of-s : goal.shape_of-s
shape_of-s c = c.loop-r.invariant.2

pub returns : goal.returns
unfolding biased
returns c =
    c.loop-r.invariant.3 ∙ ap (λ m. put c.args.s.now c.args.y (each_row m c.args.d (plus c.args.d c.args.b.now) (region c.args.s.now c.args.y (c.args.n * c.args.d)))) (omega arith)
