-- `encoder_rotation::places::Places::rotate_tokens` meets its contract. Assumes nothing.
use mathlib.Core.Path.{ap, ◌∙◌}
use Prim.Native.Nat.{ℕ, ◌+◌, ◌*◌, ◌<◌}
use native.Mathlib.Nat.{suc-mul}
use native.Mathlib.Omega.{arith}
use native.Mathlib.Numerals.{add-one}
use borrow.Author.Rules.{rules}
use lib.ListN.{length}
use Rattle.buffers.proofs.Lists.{fit}
use Rattle.buffers.proofs.Regions.{length-region}
use Rattle.buffers.specs.Region.{region, put}
use Rattle.buffers.specs.inner.Apart.{after}
use Rattle.buffers.specs.Rows.{rows}
use Rattle.buffers.specs.Each.{each_row}
use Rattle.encoder_rotation.specs.Rotate.{rotated_token, position, rotated_at, rotate_of}
use Rattle.buffers.proofs.Steps.{row_step}
use Rattle.encoder_rotation.proofs.Rotated.{length-token, position-lt}
use Rattle.encoder_rotation.proofs.places.Places.rotate_tokens.Goals as goal

pub loop-i-init : goal.loop-i-init
unfolding put rows
loop-i-init c = search rules

pub rotate_token-requires : goal.rotate_token-requires
rotate_token-requires c =
    let inside : position c.args.self.gw c.args.self.side c.loop-i.i < c.args.self.side * c.args.self.side = let g = c.requires.places in position-lt c.loop-i.i c.args.self.gw c.args.self.side c.requires.places.some c.requires.places.wide (omega arith) in
    let hd = c.args.self.half + c.args.self.half in
    let f = fit (c.args.self.heads * hd) c.loop-i-test.true in
    let g = fit hd (inside) in
    let p = position c.args.self.gw c.args.self.side c.loop-i.i * hd in
    record {
      xin = omega arith;
      cin = ap length c.part.ensures ∙ length-region c.args.cos.now p hd (omega arith);
      sin' = ap length c.part-in-loop-i.ensures ∙ length-region c.args.sin.now p hd (omega arith);
    }

pub loop-i-preserved : goal.loop-i-preserved
loop-i-preserved c =
    let hd = c.args.self.half + c.args.self.half in
    let p : ℕ → ℕ = λ i. position c.args.self.gw c.args.self.side i * hd in
    let f = fit (c.args.self.heads * hd) c.loop-i-test.true in (
      omega arith,
      rw (add-one, suc-mul) (omega arith),
      c.rotate_token.auto.s ∙ c.loop-i.invariant.2,
      cc (
        c.rotate_token.ensures,
        c.part.ensures,
        c.part-in-loop-i.ensures,
        c.loop-i.invariant.1,
        c.loop-i.invariant.3,
        row_step c.args.s.now c.args.self.x c.args.self.x c.args.self.tokens (c.args.self.heads * hd) (c.args.self.heads * hd) c.loop-i.i
            (λ i. rotated_token c.args.self.heads c.args.self.half (region c.args.cos.now (p i) hd) (region c.args.sin.now (p i) hd))
            (λ i x. length-token c.args.self.heads c.args.self.half (region c.args.cos.now (p i) hd) (region c.args.sin.now (p i) hd) x) (after (omega arith)) (omega arith),
      ),
    )

pub shape_of-s : goal.shape_of-s
shape_of-s c = c.loop-i.invariant.2

pub returns : goal.returns
unfolding rotate_of
returns c =
    c.loop-i.invariant.3 ∙ ap (λ n. put c.args.s.now c.args.self.x (each_row n (c.args.self.heads * (c.args.self.half + c.args.self.half)) (rotated_at c.args.self.heads c.args.self.half c.args.self.gw c.args.self.side c.args.cos.now c.args.sin.now) (region c.args.s.now c.args.self.x (c.args.self.tokens * (c.args.self.heads * (c.args.self.half + c.args.self.half)))))) (omega arith)
