-- `encoder_linear::values::Values::pair_wide` meets its contract: more sums of each row, read past those before them. Assumes nothing.
use borrow.Author.Rules.{rules}
use Prim.Native.Nat.{◌+◌, ◌≤◌}
use native.Mathlib.Omega.{arith}
use mathlib.Core.Path.{◌∙◌}
use Rattle.buffers.specs.Rows.{tab}
use Rattle.buffers.specs.Region.{put}
use Rattle.encoder_linear.specs.Linear.{weighed_row}
use Rattle.encoder_linear.specs.inner.Weighed.{weighed_pair}
use Rattle.encoder_linear.proofs.Pairs.{pair-more, part-fits}
use Rattle.encoder_linear.proofs.values.Values.pair_wide.Goals as goal

pub loop-d-init : goal.loop-d-init
unfolding put tab weighed_row weighed_pair
loop-d-init c = search rules

pub pair_thirty_two-requires : goal.pair_thirty_two-requires
pair_thirty_two-requires c = rw c.loop-d.invariant.1 (part-fits c.loop-d.d 32 c.requires (omega (arith, c.if-self-d-ge32.true, c.loop-d.invariant.0)))

pub loop-d-preserved-then-wide : goal.loop-d-preserved-then-wide
loop-d-preserved-then-wide c =
    let room : c.loop-d.d + 32 ≤ c.args.self.hd = omega (arith, c.loop-d.invariant.0, c.if-self-d-ge32.true) in
    (room, c.pair_thirty_two.auto.s ∙ c.loop-d.invariant.1, pair-more c.args.s.now c.args.a c.args.b c.args.self.v c.args.x c.args.y c.args.self.t c.args.self.dim c.args.self.hd c.args.self.o c.requires c.loop-d.d 32 room c.loop-d.s c.pair_thirty_two.new.s c.loop-d.invariant.2 c.pair_thirty_two.ensures)

pub pair_sixteen-requires : goal.pair_sixteen-requires
pair_sixteen-requires c = rw c.loop-d.invariant.1 (part-fits c.loop-d.d 16 c.requires (omega (arith, c.loop-d-test.true, c.loop-d.invariant.0)))

pub loop-d-preserved : goal.loop-d-preserved
loop-d-preserved c =
    let room : c.loop-d.d + 16 ≤ c.args.self.hd = omega (arith, c.loop-d.invariant.0, c.loop-d-test.true) in
    (room, c.pair_sixteen.auto.s ∙ c.loop-d.invariant.1, pair-more c.args.s.now c.args.a c.args.b c.args.self.v c.args.x c.args.y c.args.self.t c.args.self.dim c.args.self.hd c.args.self.o c.requires c.loop-d.d 16 room c.loop-d.s c.pair_sixteen.new.s c.loop-d.invariant.2 c.pair_sixteen.ensures)

pub shape_of-s : goal.shape_of-s
shape_of-s c = c.loop-d.invariant.1

pub returns : goal.returns
returns c = (c.loop-d.invariant.0, c.loop-d.invariant.2)
