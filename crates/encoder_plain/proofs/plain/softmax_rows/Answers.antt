-- `encoder_plain::plain::softmax_rows` meets its contract. Assumes nothing.
use mathlib.Core.Path.{refl, ap, ◌∙◌}
use Prim.Native.Nat.{◌*◌}
use native.Mathlib.Omega.{arith}
use Rattle.buffers.specs.Rows.{rows}
use Rattle.buffers.specs.Each.{each_row}
use Rattle.buffers.specs.inner.Apart.{after}
use Rattle.buffers.proofs.Lists.{fit}
use Rattle.buffers.proofs.Steps.{row_step}
use Rattle.buffers.specs.Region.{region, put}
use Rattle.encoder_softmax.specs.Softmax.{softmax_of}
use Rattle.encoder_softmax.proofs.Lengths.{length-softmax}
use Rattle.encoder_plain.specs.Plain.{soft_rows}
use Rattle.encoder_plain.proofs.plain.softmax_rows.Goals as goal

pub loop-qi-init : goal.loop-qi-init
unfolding put rows
loop-qi-init c = (omega arith, refl, refl)

pub softmax_row-requires : goal.softmax_row-requires
softmax_row-requires c = omega (arith, fit c.args.t c.loop-qi-test.true, c.requires, c.loop-qi.invariant.1)

pub loop-qi-preserved : goal.loop-qi-preserved
loop-qi-preserved c = (
  omega arith,
  c.softmax_row.auto.s ∙ c.loop-qi.invariant.1,
  cc (c.softmax_row.ensures, c.loop-qi.invariant.2, row_step c.args.s.now c.args.m c.args.m c.args.t c.args.t c.args.t c.loop-qi.qi (λ _. softmax_of c.args.t) (λ _ x. length-softmax c.args.t x) (after (omega arith)) c.loop-qi-test.true),
)

pub shape_of-s : goal.shape_of-s
shape_of-s c = c.loop-qi.invariant.1

pub returns : goal.returns
unfolding soft_rows
returns c = c.loop-qi.invariant.2 ∙ ap (λ n. put c.args.s.now c.args.m (each_row n c.args.t (λ _. softmax_of c.args.t) (region c.args.s.now c.args.m (c.args.t * c.args.t)))) (omega arith)
