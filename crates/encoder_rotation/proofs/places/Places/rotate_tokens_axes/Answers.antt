-- `encoder_rotation::places::Places::rotate_tokens_axes` meets its contract. Assumes nothing.
use mathlib.Core.Path.{ap, ◌∙◌}
use Prim.Native.Nat.{◌+◌, ◌*◌, ◌/◌, ◌%◌, ◌≤◌, ◌<◌}
use native.Mathlib.Nat.{suc-mul}
use native.Mathlib.Omega.{arith}
use native.Mathlib.Numerals.{add-one}
use borrow.Author.Rules.{rules}
use lib.ListN.{length}
use Rattle.buffers.proofs.Lists.{fit}
use Rattle.buffers.proofs.Regions.{length-region}
use Rattle.buffers.specs.Region.{region, put}
use Rattle.buffers.specs.Rows.{rows}
use Rattle.buffers.specs.Each.{each_row}
use Rattle.encoder_rotation.specs.Rotate.{rotated_at, rotate_of}
use Rattle.encoder_rotation.specs.Axes.{expand}
use Rattle.encoder_rotation.proofs.Expanded.{row_lt, column-lt, axes-step}
use Rattle.encoder_rotation.proofs.places.Places.rotate_tokens_axes.Goals as goal

pub loop-i-init : goal.loop-i-init
unfolding put rows
loop-i-init c = search rules

pub rotate_token_axes-requires : goal.rotate_token_axes-requires
rotate_token_axes-requires c =
    let inside : (let a = c.args in let i = c.loop-i.i in (i / c.args.self.gw < c.args.self.side) × (i % c.args.self.gw < c.args.self.side)) = let a = c.args in
    let g = c.requires.places in
    (row_lt c.loop-i.i c.args.self.gw c.args.self.side c.requires.places.some (omega (arith, c.requires.places.high, c.loop-i-test.true)), column-lt c.loop-i.i c.args.self.gw c.args.self.side c.requires.places.some c.requires.places.wide) in
    let short : (let a = c.args in let i = c.loop-i.i in (i / c.args.self.gw * c.args.q + c.args.q ≤ c.args.self.side * c.args.q) × (i % c.args.self.gw * c.args.q + c.args.q ≤ c.args.self.side * c.args.q)) = let q = c.args.q in (fit q inside.0, fit q inside.1) in
    let a = c.args in
    let g = c.requires in
    let i = c.loop-i.i in
    let f = fit (c.args.self.heads * (c.args.q + c.args.q + (c.args.q + c.args.q))) c.loop-i-test.true in
    let p = short in
    record {
      narrow = omega (arith, c.requires.places.narrow);
      xin = omega (arith, f, c.requires.places.xin, c.loop-i.invariant);
      rows-cos = ap length c.part.ensures ∙ length-region c.args.row_cos.now (i / c.args.self.gw * c.args.q) c.args.q (omega (arith, p, c.requires.rows-cos));
      rows-sin = ap length c.part-in-loop-i.ensures ∙ length-region c.args.row_sin.now (i / c.args.self.gw * c.args.q) c.args.q (omega (arith, p, c.requires.rows-sin));
      columns-cos = ap length c.part-in-loop-i-2.ensures ∙ length-region c.args.column_cos.now (i % c.args.self.gw * c.args.q) c.args.q (omega (arith, p, c.requires.columns-cos));
      columns-sin = ap length c.part-in-loop-i-3.ensures ∙ length-region c.args.column_sin.now (i % c.args.self.gw * c.args.q) c.args.q (omega (arith, p, c.requires.columns-sin));
    }

pub loop-i-preserved : goal.loop-i-preserved
loop-i-preserved c =
    let inside : (let a = c.args in let i = c.loop-i.i in (i / c.args.self.gw < c.args.self.side) × (i % c.args.self.gw < c.args.self.side)) = let a = c.args in
    let g = c.requires.places in
    (row_lt c.loop-i.i c.args.self.gw c.args.self.side c.requires.places.some (omega (arith, c.requires.places.high, c.loop-i-test.true)), column-lt c.loop-i.i c.args.self.gw c.args.self.side c.requires.places.some c.requires.places.wide) in
    let a = c.args in
    let g = c.requires in
    let i = inside in
    let f = fit (c.args.self.heads * (c.args.q + c.args.q + (c.args.q + c.args.q))) c.loop-i-test.true in (
      omega arith,
      rw (add-one, suc-mul) (omega (arith, c.loop-i.invariant.1)),
      c.rotate_token_axes.auto.s ∙ c.loop-i.invariant.2,
      axes-step c.args.self.tokens c.args.self.heads c.args.q c.args.self.gw c.args.self.side c.args.row_cos.now c.args.row_sin.now c.args.column_cos.now c.args.column_sin.now
          c.requires.rows-cos c.requires.rows-sin c.requires.columns-cos c.requires.columns-sin c.args.s.now c.loop-i.s _ c.args.self.x c.loop-i.xa c.loop-i.i _ _ _ _
          c.loop-i-test.true inside.0 inside.1 c.loop-i.invariant.1 c.loop-i.invariant.3
          c.part.ensures c.part-in-loop-i.ensures c.part-in-loop-i-2.ensures c.part-in-loop-i-3.ensures c.rotate_token_axes.ensures,
    )

pub shape_of-s : goal.shape_of-s
shape_of-s c = c.loop-i.invariant.2

pub returns : goal.returns
unfolding rotate_of
returns c =
    let dim = c.args.self.heads * (c.args.q + c.args.q + (c.args.q + c.args.q)) in
    c.loop-i.invariant.3 ∙ ap (λ n. put c.args.s.now c.args.self.x (each_row n dim (rotated_at c.args.self.heads (c.args.q + c.args.q) c.args.self.gw c.args.self.side (expand c.args.self.side c.args.q c.args.row_cos.now c.args.column_cos.now) (expand c.args.self.side c.args.q c.args.row_sin.now c.args.column_sin.now)) (region c.args.s.now c.args.self.x (c.args.self.tokens * dim)))) (omega arith)
