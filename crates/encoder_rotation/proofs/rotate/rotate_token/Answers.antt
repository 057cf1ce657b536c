-- `encoder_rotation::rotate::rotate_token` meets its contract. Assumes nothing.
use mathlib.Core.Path.{ap, ◌∙◌}
use Prim.Native.Nat.{◌+◌, ◌*◌}
use native.Mathlib.Nat.{suc-mul}
use native.Mathlib.Omega.{arith}
use native.Mathlib.Numerals.{add-one}
use borrow.Author.Rules.{rules}
use Rattle.buffers.proofs.Lists.{fit}
use Rattle.buffers.specs.Region.{region, put}
use Rattle.buffers.specs.inner.Apart.{after}
use Rattle.buffers.specs.Rows.{rows}
use Rattle.buffers.specs.Each.{each_row}
use Rattle.encoder_rotation.specs.Rotate.{rotated_head, rotated_token}
use Rattle.buffers.proofs.Steps.{row_step}
use Rattle.encoder_rotation.proofs.Rotated.{length-head}
use Rattle.encoder_rotation.proofs.rotate.rotate_token.Goals as goal

pub loop-r-init : goal.loop-r-init
unfolding put rows
loop-r-init c = search rules

pub rotate_half_inplace-requires : goal.rotate_half_inplace-requires
rotate_half_inplace-requires c =
    let f = fit (c.args.half + c.args.half) c.loop-r-test.true in
    record {
      xin = omega arith;
      cin = search rules;
      sin' = search rules;
    }

pub loop-r-preserved : goal.loop-r-preserved
loop-r-preserved c =
    let hd = c.args.half + c.args.half in
    let f = fit hd c.loop-r-test.true in (
      omega arith,
      rw (add-one, suc-mul) (omega arith),
      c.rotate_half_inplace.auto.s ∙ c.loop-r.invariant.2,
      cc (c.rotate_half_inplace.ensures, c.loop-r.invariant.1, c.loop-r.invariant.3, row_step c.args.s.now c.args.x c.args.x c.args.heads hd hd c.loop-r.r (λ _. rotated_head c.args.half c.args.cos.now c.args.sin.now) (λ _ x. length-head c.args.half c.args.cos.now c.args.sin.now x) (after (omega arith)) (omega arith)),
    )

pub shape_of-s : goal.shape_of-s
shape_of-s c = c.loop-r.invariant.2

pub returns : goal.returns
unfolding rotated_token
returns c =
    c.loop-r.invariant.3 ∙ ap (λ n. put c.args.s.now c.args.x (each_row n (c.args.half + c.args.half) (λ _. rotated_head c.args.half c.args.cos.now c.args.sin.now) (region c.args.s.now c.args.x (c.args.heads * (c.args.half + c.args.half))))) (omega arith)
