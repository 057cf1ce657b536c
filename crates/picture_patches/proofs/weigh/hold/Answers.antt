-- `picture_patches::weigh::hold` meets its contract. Assumes nothing.
use mathlib.Core.Path.{refl, ap, ◌∙◌}
use mathlib.Core.Logic.{⊎_elim}
use native.Mathlib.Omega.{arith}
use lib.ListN.{length, length-set}
use Rattle.picture_patches.proofs.Strips.{weighed-held, there-held}
use Rattle.picture_patches.proofs.weigh.hold.Goals as goal

pub weigh_row-requires : goal.weigh_row-requires
weigh_row-requires c =
    (c.requires.0, c.requires.1, c.requires.2, c.requires.3, omega (arith, c.requires.4.columns, c.requires.4.left-long), omega (arith, c.requires.4.columns, c.requires.4.right-long))

pub shape_of-held : goal.shape_of-held
shape_of-held c = simp length-set

pub shape_of-left : goal.shape_of-left
shape_of-left c = ⊎_elim (λ w. ap length w.left-is ∙ w.weigh_row.auto.left) (λ w. ap length w.left-is) c.if-held-s.branch-raw

pub shape_of-right : goal.shape_of-right
shape_of-right c = ⊎_elim (λ w. ap length w.right-is ∙ w.weigh_row.auto.right) (λ w. ap length w.right-is) c.if-held-s.branch-raw

pub returns : goal.returns
returns c = record {
  held_after = refl;
  held = ⊎_elim
      (λ w. weighed-held c.args.rgb.now c.args.f c.args.x c.args.n c.args.held.now c.args.left.now c.args.right.now c.requires.4 c.requires.5 c.args.y (w.left-is ∙ w.weigh_row.ensures.left_after) (w.right-is ∙ w.weigh_row.ensures.right_after))
      (λ w. there-held c.args.rgb.now c.args.f c.args.x c.args.n c.args.held.now c.args.left.now c.args.right.now c.requires.4 c.requires.5 c.args.y w.if-held-s.false w.left-is w.right-is)
      c.if-held-s.branch-raw;
}
