-- `encoder_linear::strip::Strip::columns` meets its contract: columns that were written are not read again. Assumes nothing.
use mathlib.Core.Path.{refl, ap, ◌∙◌}
use native.Mathlib.Omega.{arith}
use Rattle.encoder_linear.specs.inner.Lanes.{gone_sum, filled}
use Rattle.encoder_linear.proofs.Fills.{filled-all}
use Rattle.encoder_linear.proofs.Pieces.{column-turn, pair_turn, four-turn}
use Rattle.encoder_linear.proofs.strip.Strip.columns.Goals as goal

pub loop-c-init : goal.loop-c-init
unfolding filled
loop-c-init c = (omega arith, refl, refl)

pub four_columns-requires : goal.four_columns-requires
four_columns-requires c = record { few = omega (arith, c.if-self-lt5.true); fits = rw c.loop-c.invariant.1 c.requires; columns = omega (arith, c.if-self-c-ge4.true, c.loop-c.invariant.0) }

pub loop-c-preserved-then-self-lt5 : goal.loop-c-preserved-then-self-lt5
loop-c-preserved-then-self-lt5 c = (
  omega (arith, c.if-self-c-ge4.true, c.loop-c.invariant.0),
  c.four_columns.auto.s ∙ c.loop-c.invariant.1,
  four-turn c.args.w.now c.args.xt.now c.args.self.y c.args.self.r c.args.self.nin c.args.self.nout c.args.self.k c.args.self.n c.args.s.now c.loop-c.s c.four_columns.new.s c.loop-c.c (omega (arith, c.if-self-c-ge4.true, c.loop-c.invariant.0)) c.loop-c.invariant.2 c.four_columns.ensures,
)

pub wide_columns-requires : goal.wide_columns-requires
wide_columns-requires c = record { fits = rw c.loop-c.invariant.1 c.requires; columns = omega (arith, c.if-self-c-ge4.true, c.loop-c.invariant.0) }

pub loop-c-preserved-then-wide : goal.loop-c-preserved-then-wide
loop-c-preserved-then-wide c = (
  omega (arith, c.if-self-c-ge4.true, c.loop-c.invariant.0),
  c.wide_columns.auto.s ∙ c.loop-c.invariant.1,
  four-turn c.args.w.now c.args.xt.now c.args.self.y c.args.self.r c.args.self.nin c.args.self.nout c.args.self.k c.args.self.n c.args.s.now c.loop-c.s c.wide_columns.new.s c.loop-c.c (omega (arith, c.if-self-c-ge4.true, c.loop-c.invariant.0)) c.loop-c.invariant.2 c.wide_columns.ensures,
)

pub two_columns-requires : goal.two_columns-requires
two_columns-requires c = record { fits = rw c.loop-c.invariant.1 c.requires; column = omega (arith, c.if-self-c-ge4.true, c.loop-c.invariant.0) }

pub loop-c-preserved-else-wide : goal.loop-c-preserved-else-wide
loop-c-preserved-else-wide c = (
  omega (arith, c.if-self-c-ge4.true, c.loop-c.invariant.0),
  c.two_columns.auto.s ∙ c.loop-c.invariant.1,
  pair_turn c.args.w.now c.args.xt.now c.args.self.y c.args.self.r c.args.self.nin c.args.self.nout c.args.self.k c.args.self.n c.args.s.now c.loop-c.s c.two_columns.new.s c.loop-c.c (omega (arith, c.if-self-c-ge4.true, c.loop-c.invariant.0)) c.loop-c.invariant.2 c.two_columns.ensures,
)

pub one_column-requires : goal.one_column-requires
one_column-requires c = record { fits = rw c.loop-c.invariant.1 c.requires; column = c.loop-c-test.true }

pub loop-c-preserved : goal.loop-c-preserved
loop-c-preserved c = (
  omega (arith, c.loop-c-test.true),
  c.one_column.auto.s ∙ c.loop-c.invariant.1,
  column-turn c.args.w.now c.args.xt.now c.args.self.y c.args.self.r c.args.self.nin c.args.self.nout c.args.self.k c.args.self.n c.args.s.now c.loop-c.s c.one_column.new.s c.loop-c.c (omega (arith, c.loop-c-test.true)) c.loop-c.invariant.2 c.one_column.ensures,
)

pub shape_of-s : goal.shape_of-s
shape_of-s c = c.loop-c.invariant.1

pub returns : goal.returns
returns c =
    let F = gone_sum c.args.s.now c.args.w.now c.args.xt.now c.args.self.y c.args.self.nin c.args.self.nout c.args.self.k c.args.self.n in
    c.loop-c.invariant.2 ∙ ap (λ m. filled c.args.s.now c.args.self.y c.args.self.nout c.args.self.r m F) (omega (arith, c.loop-c-test.false, c.loop-c.invariant.0)) ∙ filled-all c.args.s.now c.args.self.y c.args.self.nout F c.args.self.r
