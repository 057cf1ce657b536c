-- `encoder_rotation::rotate::rotate_half_inplace` meets its contract. Assumes nothing.
use mathlib.Core.Path.{ap, ◌∙◌}
use native.Mathlib.Omega.{arith}
use borrow.Author.Rules.{rules}
use lib.ListN.{length-set}
use Rattle.buffers.specs.Region.{put}
use Rattle.buffers.specs.Rows.{tab}
use Rattle.encoder_rotation.proofs.Rotated.{rotating, rotate-step, rotated-all}
use Rattle.encoder_rotation.proofs.rotate.rotate_half_inplace.Goals as goal

pub loop-j-init : goal.loop-j-init
unfolding put tab
loop-j-init c = search rules

pub loop-j-preserved : goal.loop-j-preserved
loop-j-preserved c = (
  omega arith,
  simp length-set c.loop-j.invariant.1,
  cc (c.loop-j.invariant.2, rotate-step c.args.s.now c.args.cos.now c.args.sin.now c.args.x c.args.half c.loop-j.j (omega arith)),
)

pub shape_of-s : goal.shape_of-s
shape_of-s c = c.loop-j.invariant.1

pub returns : goal.returns
returns c =
    c.loop-j.invariant.2 ∙ ap (λ m. rotating c.args.s.now c.args.cos.now c.args.sin.now c.args.x c.args.half m) (omega arith) ∙ rotated-all c.args.s.now c.args.cos.now c.args.sin.now c.args.x c.args.half
