-- `encoder_linear::linear::from_rows` meets its contract. Assumes nothing.
use mathlib.Core.Path.{refl, ap, ◌∙◌}
use Prim.Native.Nat.{◌+◌, ◌*◌, ◌≤◌}
use native.Mathlib.Omega.{arith}
use Rattle.buffers.specs.Region.{put}
use Rattle.buffers.specs.Rows.{rows}
use Rattle.encoder_linear.specs.Linear.{linear_of}
use Rattle.encoder_linear.proofs.Pieces.{fit-more, rows-turn}
use Rattle.encoder_linear.proofs.linear.from_rows.Goals as goal

pub loop-i-init : goal.loop-i-init
unfolding put rows linear_of
loop-i-init c = (omega arith, refl, refl)

pub block-requires : goal.block-requires
block-requires c =
    let room : (let a = c.args in
    (c.loop-i.i + c.next_rows-r.result ≤ c.args.n) × (c.loop-i.i * c.args.nin + c.next_rows-r.result * c.args.nin ≤ c.args.n * c.args.nin)
    × (c.loop-i.i * c.args.nout + c.next_rows-r.result * c.args.nout ≤ c.args.n * c.args.nout)) = let a = c.args in
    let i = c.loop-i.i in
    let h : i + c.next_rows-r.result ≤ c.args.n = omega (arith, c.next_rows-r.ensures.first, c.loop-i.invariant.0) in
    (h, fit-more i c.next_rows-r.result c.args.nin h, fit-more i c.next_rows-r.result c.args.nout h) in
    let f = room in
    record {
      some = c.next_rows-r.ensures.some (omega (arith, c.loop-i-test.true)) (omega arith);
      lanes = c.next_rows-r.ensures.second;
      xin = omega (arith, c.requires.xin);
      yin = omega (arith, c.requires.yin, c.loop-i.invariant.1);
      win = c.requires.win;
    }

pub loop-i-preserved : goal.loop-i-preserved
loop-i-preserved c =
    let room : (let a = c.args in
    (c.loop-i.i + c.next_rows-r.result ≤ c.args.n) × (c.loop-i.i * c.args.nin + c.next_rows-r.result * c.args.nin ≤ c.args.n * c.args.nin)
    × (c.loop-i.i * c.args.nout + c.next_rows-r.result * c.args.nout ≤ c.args.n * c.args.nout)) = let a = c.args in
    let i = c.loop-i.i in
    let h : i + c.next_rows-r.result ≤ c.args.n = omega (arith, c.next_rows-r.ensures.first, c.loop-i.invariant.0) in
    (h, fit-more i c.next_rows-r.result c.args.nin h, fit-more i c.next_rows-r.result c.args.nout h) in
    let a = c.args in (
      room.0,
      c.block.auto.s ∙ c.loop-i.invariant.1,
      rows-turn c.next_rows-r.result c.args.nin c.args.nout c.args.w.now c.args.s.now c.loop-i.s c.block.new.s c.args.x.now c.args.y c.loop-i.i c.loop-i.invariant.2 c.block.ensures,
    )

pub shape_of-s : goal.shape_of-s
shape_of-s c = c.loop-i.invariant.1

pub returns : goal.returns
returns c =
    c.loop-i.invariant.2 ∙ ap (λ m. put c.args.s.now c.args.y (linear_of m c.args.nin c.args.nout c.args.w.now c.args.x.now)) (omega arith)
