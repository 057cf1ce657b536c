-- `encoder_linear::linear::block` meets its contract. Assumes nothing.
use mathlib.Core.Path.{◌≡◌, refl, ap, ◌∙◌}
use mathlib.Core.List.{List}
use Prim.Native.Nat.{ℕ, ◌+◌, ◌*◌, ◌<◌}
use Rattle.std.specs.Prelude.{min}
use lib.Ieee.{Float}
use native.Mathlib.Omega.{arith}
use lib.ListN.{length}
use Rattle.buffers.specs.Region.{region, put}
use Rattle.buffers.proofs.Regions.{length-region}
use Rattle.buffers.proofs.Rooms.{written}
use Rattle.encoder_linear.specs.inner.Lanes.{begun}
use Rattle.encoder_linear.proofs.Pieces.{block-turn, cleared-start, block-done}
use Rattle.encoder_linear.proofs.linear.block.Goals as goal

pub loop-i-init : goal.loop-i-init
loop-i-init c =
    let u = c.clear_at.new.s in
    let X = region c.args.x.now c.args.xa (c.args.r * c.args.nin) in
    let z : 0 ≡ min (0 * 1024) c.args.nin = omega arith in (
      refl,
      cleared-start c.args.r c.args.nin c.args.nout c.args.w.now c.args.s.now u X c.args.y (written c.args.s.now _ _ c.args.y (c.args.r * c.args.nout) c.requires.yin c.clear_at.ensures)
          ∙ ap (λ k. put u c.args.y (begun k c.args.r c.args.nin c.args.nout c.args.w.now X)) z,
    )

pub piece-requires : goal.piece-requires
piece-requires c =
    let q : length c.loop-i.s ≡ length c.args.s.now = c.loop-i.invariant.0 ∙ c.clear_at.auto.s in
    record { block = rw q c.requires; kin = omega (arith, c.min-n.ensures, c.div_ceil-i-end.ensures, c.loop-i-test.true); short = omega (arith, c.min-n.ensures) }

pub loop-i-preserved : goal.loop-i-preserved
loop-i-preserved c =
    let u = c.clear_at.new.s in
    let q : length u ≡ length c.args.s.now = c.clear_at.auto.s in
    let X = region c.args.x.now c.args.xa (c.args.r * c.args.nin) in
    let B : ℕ → List Float = λ k. put u c.args.y (begun k c.args.r c.args.nin c.args.nout c.args.w.now X) in
    let k = c.loop-i.i * 1024 in
    let low : k < c.args.nin = omega (arith, c.div_ceil-i-end.ensures, c.loop-i-test.true) in
    let here : min k c.args.nin ≡ k = omega (arith, low) in
    let next : k + c.min-n.result ≡ min ((c.loop-i.i + 1) * 1024) c.args.nin = omega (arith, low, c.min-n.ensures) in (
      c.piece.auto.s ∙ c.loop-i.invariant.0,
      block-turn c.args.r c.args.nin c.args.nout c.args.w.now u c.loop-i.s c.piece.new.s X c.args.y k c.min-n.result (rw q c.requires.yin) (c.loop-i.invariant.1 ∙ ap B here) c.piece.ensures ∙ ap B next,
    )

pub shape_of-s : goal.shape_of-s
shape_of-s c = c.loop-i.invariant.0 ∙ c.clear_at.auto.s

pub returns : goal.returns
returns c =
    let u = c.clear_at.new.s in
    let X = region c.args.x.now c.args.xa (c.args.r * c.args.nin) in
    let g : c.loop-i.s ≡ put u c.args.y (begun c.args.nin c.args.r c.args.nin c.args.nout c.args.w.now X) = c.loop-i.invariant.1 ∙ ap (λ k. put u c.args.y (begun k c.args.r c.args.nin c.args.nout c.args.w.now X)) (omega (arith, c.div_ceil-i-end.ensures)) in
    block-done c.args.r c.args.nin c.args.nout c.args.w.now c.args.s.now u c.loop-i.s X c.args.y (omega (arith, length-region c.args.x.now c.args.xa (c.args.r * c.args.nin) c.requires.xin)) (written c.args.s.now u _ c.args.y (c.args.r * c.args.nout) c.requires.yin c.clear_at.ensures) g
